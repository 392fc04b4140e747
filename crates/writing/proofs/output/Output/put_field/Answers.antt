use Rattle.std.proofs.Common.{[], ◌∷◌, length, sym, ap, ◌∙◌, arith, w64}
use Rattle.std.proofs.lemmas.Int.{to_z-of_z}
use Rattle.model.specs.Names.{name_text}
use Rattle.writing.specs.Texts.{number_text}
use Rattle.writing.proofs.OutputLaws.{puts_same, puts_both}
use Rattle.writing.proofs.FieldLaws.{name_le, field_cpf, field_name, field_number}
use Rattle.writing.proofs.output.Output.put_field.Goals as goal

pub returns-in-Cpf : goal.returns-in-Cpf
returns-in-Cpf c = puts_same _ 301 _ _ _ _ (ap (λ t. 32 ∷ t) (sym (field_cpf c.args.field c.args.value c.in-Cpf.is))) (omega arith) c.put.ensures

pub returns-in-Name : goal.returns-in-Name
returns-in-Name c =
    let e = c.text.ensures ∙ ap name_text c.name.ensures ∙ sym (field_name c.args.field c.args.value c.in-Name.is) in
    puts_same _ 301 _ _ _ _ (ap (λ t. 32 ∷ t) e) (omega (arith, ap length c.text.ensures, name_le c.name.result)) (puts_both _ _ _ (32 ∷ []) _ _ _ c.put-in-Name.ensures c.put-in-Name-2.ensures)

pub returns-in-Whole : goal.returns-in-Whole
returns-in-Whole c =
    let f = c.args.field in
    let z = to_z-of_z w64 c.number.result (record { sfits = c.number.type_inv }) ∙ c.number.ensures in
    puts_same 301 301 _ _ _ _ (ap (λ t. 32 ∷ t) (ap (number_text f.layout f.places) z ∙ sym (field_number f c.args.value c.in-Whole.is))) (omega arith) c.put_number.ensures
