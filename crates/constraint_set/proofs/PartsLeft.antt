-- A loop over the parts: what it has gathered, and the parts that are left, make one constraint.
use Rattle.std.proofs.Common.{◌≡◌, ℕ, zero, suc, ◌+◌, ◌<◌, ◌≤◌, List, [], ◌∷◌, length, Option, Some, None, Result, Ok, Err, refl, sym, ◌∙◌, ap, arith, Bor}
use Rattle.std.specs.Prelude.{IfSome}
use Rattle.std.specs.Option.{option_map}
use Rattle.path_name.specs.Given.{◌>>=◌}
use Rattle.constraint_set.specs.declared.fault.ConstraintFault.{ConstraintFault}
use Rattle.constraint_set.specs.declared.constraint.Constraint.{Constraint}
use Rattle.constraint_set.specs.declared.part.Part.{Part}
use Rattle.constraint_set.specs.declared.words.Joint.{Joint}
use Rattle.constraint_set.specs.Words.{joint_at}
use Rattle.constraint_set.specs.Constraints.{part_at, parts_within}

-- the bytes that are left, and one more; none at the end
abbrev pub work_left : Option (Joint × List ℕ) → ℕ
work_left None = 0
work_left (Some next) = length next.1 + 1

-- what is made of all parts, by what the parts that are left are added to
abbrev pub made_of : (List (Joint × Part) → Constraint) → Result (List (Joint × Part)) ConstraintFault → Result Constraint ConstraintFault
made_of behind parts = parts >>= λ read. Ok (behind read)

-- there is a bound on the number of parts with which the parts that are left make the constraint
pub record IsLeft (whole : ℕ) (behind : List (Joint × Part) → Constraint) (next : Option (Joint × List ℕ)) (total : Result Constraint ConstraintFault) : Type 0 where
  pub most : ℕ
  pub enough : work_left next ≤ most
  pub left : made_of behind (parts_within most whole next) ≡ total

abbrev others_of : Joint → Part → Result (List (Joint × Part)) ConstraintFault → Result (List (Joint × Part)) ConstraintFault
others_of joint part others = others >>= λ read. Ok ((joint, part) ∷ read)

regroup : (joint : Joint) (part : Part) (before behind : List (Joint × Part) → Constraint) (others : Result (List (Joint × Part)) ConstraintFault)
    → ((parts : List (Joint × Part)) → behind parts ≡ before ((joint, part) ∷ parts)) → made_of behind others ≡ made_of before (others_of joint part others)
regroup joint part before behind (Ok read) added = ap (λ (c : Constraint). Ok c) (added read)
regroup joint part before behind (Err fault) added = refl

-- one more part
pub one_more : (whole : ℕ) (joint : Joint) (text : List ℕ) (part : Part) (rest : List ℕ) (next : Option (Joint × List ℕ)) (before behind : List (Joint × Part) → Constraint) (total : Result Constraint ConstraintFault)
    → IsLeft whole before (Some (joint, text)) total → part_at whole joint text ≡ Ok (part, rest) → joint_at rest ≡ next → work_left next ≤ length text
    → ((parts : List (Joint × Part)) → behind parts ≡ before ((joint, part) ∷ parts)) → IsLeft whole behind next total
unfolding parts_within
one_more whole joint text part rest next before behind total so_far e joined shorter added = by so_far.most so_far.enough so_far.left
  where
    by : (most : ℕ) → length text + 1 ≤ most → made_of before (parts_within most whole (Some (joint, text))) ≡ total → IsLeft whole behind next total
    by zero enough left = absurd (omega arith)
    by (suc most) enough left = record {
      most = most;
      enough = omega arith;
      left = regroup joint part before behind (parts_within most whole next) added ∙ rw (e, joined) at left;
    }

-- a part is refused
pub refused : (whole : ℕ) (joint : Joint) (text : List ℕ) (fault : ConstraintFault) (before : List (Joint × Part) → Constraint) (total : Result Constraint ConstraintFault)
    → IsLeft whole before (Some (joint, text)) total → part_at whole joint text ≡ Err fault → total ≡ Err fault
unfolding parts_within
refused whole joint text fault before total so_far e = by so_far.most so_far.enough so_far.left
  where
    by : (most : ℕ) → length text + 1 ≤ most → made_of before (parts_within most whole (Some (joint, text))) ≡ total → total ≡ Err fault
    by zero enough left = absurd (omega arith)
    by (suc most) enough left = sym (rw e at left)

-- no part is left
ended : (whole : ℕ) (before : List (Joint × Part) → Constraint) (total : Result Constraint ConstraintFault) → IsLeft whole before None total → total ≡ Ok (before [])
unfolding parts_within
ended whole before total so_far = by so_far.most so_far.left
  where
    by : (most : ℕ) → made_of before (parts_within most whole None) ≡ total → total ≡ Ok (before [])
    by zero left = sym left
    by (suc most) left = sym left

-- what comes behind a part is shorter than what began with it
pub work_within : (next : Option (Joint × Bor (List ℕ))) (behind before : ℕ) → IfSome next (λ x. length x.1.now ≤ behind) → behind < before → work_left (option_map (λ x. (x.0, x.1.now)) next) ≤ before
work_within None behind before within shorter = omega arith
work_within (Some next) behind before within shorter = omega arith

-- the loop ends where nothing comes
pub ended_there : (whole : ℕ) (before : List (Joint × Part) → Constraint) (next : Option (Joint × Bor (List ℕ))) (total : Result Constraint ConstraintFault)
    → ((x : Joint × Bor (List ℕ)) → next ≡ Some x → ⊥) → IsLeft whole before (option_map (λ x. (x.0, x.1.now)) next) total → total ≡ Ok (before [])
ended_there whole before None total none so_far = ended whole before total so_far
ended_there whole before (Some next) total none so_far = absurd (none next refl)
