use Rattle.std.proofs.Common.{◌≡◌, ◌∙◌, ap, sym, length}
use Rattle.std.specs.Prelude.{option_map}
use Rattle.std.specs.List.{slice_get}
use Rattle.plan_rules.specs.Sets.{set_of}
use Rattle.plan_rules.specs.Rivals.{fits_in}
use Rattle.plan_rules.proofs.Beside.{fits_are, same_candidate, nothing_there}
use Rattle.plan_rules.proofs.rivals.Rivals.fits.Goals as goal

pub returns-in-Some : goal.returns-in-Some
returns-in-Some c = λ pool before one known marks found.
    let rivals = c.args.self.now in
    let number = c.args.number in
    let here = c.in-Some.one.now in
    let same : here ≡ one = same_candidate here one (sym (ap (option_map (λ it. it.now)) c.in-Some.is) ∙ c.candidate_at.ensures ∙ ap (λ candidates. slice_get candidates number) known.candidates ∙ found) in
    c.fits_one.ensures ∙ ap (λ set. fits_in rivals set number here) marks ∙ ap (fits_in rivals (set_of (length pool.candidates) before) number) same
    ∙ fits_are rivals pool before one known number found

pub returns-in-None : goal.returns-in-None
returns-in-None c = λ pool before one known marks found.
    absurd (nothing_there one (sym (ap (option_map (λ it. it.now)) c.in-None.is) ∙ c.candidate_at.ensures ∙ ap (λ candidates. slice_get candidates c.args.number) known.candidates ∙ found))
