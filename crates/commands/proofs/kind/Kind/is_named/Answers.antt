use Rattle.std.proofs.Common.{ap, ◌∙◌}
use Rattle.std.specs.Str.{bytes_eq}
use Rattle.std.proofs.lemmas.Slice.Eq.{slice_eq-Decides, bytes_eq-Decides}
use Rattle.std.proofs.lemmas.Bool.Decides.{same_from_decides, Decides-eqb}
use Rattle.commands.proofs.kind.Kind.is_named.Goals as goal

pub returns : goal.returns
returns c =
    let name = c.args.name.now in
    same_from_decides _ _ (slice_eq-Decides Decides-eqb _ _ _ c.eq.ensures) (bytes_eq-Decides c.form.result.name.now name) ∙ ap (λ f. bytes_eq f.name name) c.form.ensures
