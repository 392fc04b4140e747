use Rattle.std.proofs.Common.{w64, SFits, rules}
use Rattle.std.proofs.lemmas.Int.{to_z-of_z}
use Rattle.writing.proofs.values.satellite_values.Goals as goal

pub returns : goal.returns
returns c =
    let s = c.args.satellite.now in
    let a : SFits w64 s.ilrs_number = search rules in
    let b : SFits w64 s.sic = search rules in
    let d : SFits w64 s.norad_number = search rules in
    let e : SFits w64 s.tiv_compatible = search rules in
    let f : SFits w64 s.target_class = search rules in
    let g : SFits w64 s.frame = search rules in
    let h : SFits w64 s.rotation = search rules in
    let i : SFits w64 s.centre_of_mass = search rules in
    let j : SFits w64 s.location = search rules in
    simp (c.time_values-start.ensures, c.time_values-end.ensures, c.whole.ensures, to_z-of_z)
