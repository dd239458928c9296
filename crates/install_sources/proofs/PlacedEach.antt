-- Packages in their places: those that are placed so far, and what is left.
use Rattle.std.proofs.Common.{◌≡◌, ◌⊎◌, IsTrue, inl, inr, subst, ℕ, ◌+◌, ◌<◌, ◌≤◌, List, [], ◌∷◌, ◌++◌, length, map, take, drop, get_or, Result, Ok, Err, refl, sym, ap, ◌∙◌, append_assoc}
use Rattle.std.specs.Borrow.{Bor}
use Rattle.std.specs.List.{AllByRecursion}
use Rattle.std.proofs.lemmas.List.{append-nil, drop_all, map-append, take_more}
use Rattle.path_name.specs.Given.{◌>>=◌}
use Rattle.manifest_read.proofs.Gathering.{left_at}
use Rattle.tree_dev.specs.Trees.{FileTree}
use Rattle.lock_file.specs.FormedLocks.{IsLocked}
use Rattle.lock_file.specs.Locks.{locked_name}
use Rattle.lock_file.specs.declared.types.Locked.{Locked}
use Rattle.lock_file.proofs.Views.{shown}
use Rattle.psr_routes.specs.declared.types.Placed.{Placed}
use Rattle.run_answers.specs.Faults.{is_free}
use Rattle.run_answers.specs.declared.refusal.Refusal.{Refusal}
use Rattle.install_sources.specs.Sources.{placed_each, placed_in, placed_name}

-- what the rest gives, behind the packages that are placed already
abbrev behind : List Placed → Result (List Placed) Refusal → Result (List Placed) Refusal
behind done r = r >>= λ more. Ok (done ++ more)

behind_none : (r : Result (List Placed) Refusal) → r ≡ behind [] r
behind_none (Ok more) = refl
behind_none (Err refusal) = refl

behind_more : (done : List Placed) (one : Placed) (r : Result (List Placed) Refusal) → behind done (r >>= λ more. Ok (one ∷ more)) ≡ behind (done ++ one ∷ []) r
behind_more done one (Ok more) = ap Ok (sym (append_assoc done (one ∷ []) more))
behind_more done one (Err refusal) = refl

abbrev pub gathered : FileTree → List (List ℕ) → List Placed → List (Bor Locked) → Result (List Placed) Refusal
gathered t project done rest = behind done (placed_each t project (map shown rest))

module _ (t : FileTree) (project : List (List ℕ)) where
  pub at_first : (some : List (Bor Locked)) → placed_each t project (map shown some) ≡ gathered t project [] some
  at_first some = behind_none (placed_each t project (map shown some))

  one_more : (done : List Placed) (entry : Bor Locked) (one : Placed) (rest : List (Bor Locked)) → placed_in t project entry.now ≡ Ok one
      → gathered t project done (entry ∷ rest) ≡ gathered t project (done ++ one ∷ []) rest
  unfolding placed_each
  one_more done entry one rest e = ap (λ r. behind done (r >>= λ v. placed_each t project (map shown rest) >>= λ vs. Ok (v ∷ vs))) e ∙ behind_more done one (placed_each t project (map shown rest))

  refused : (done : List Placed) (entry : Bor Locked) (refusal : Refusal) (rest : List (Bor Locked)) → placed_in t project entry.now ≡ Err refusal → gathered t project done (entry ∷ rest) ≡ Err refusal
  unfolding placed_each
  refused done entry refusal rest e = ap (λ r. behind done (r >>= λ v. placed_each t project (map shown rest) >>= λ vs. Ok (v ∷ vs))) e

  module _ (some : List (Bor Locked)) (i : ℕ) where
    pub step : (entry : Bor Locked) → i < length some → entry ≡ get_or some i entry → (done now : List Placed) (one : Placed) → placed_in t project entry.now ≡ Ok one → now ≡ done ++ one ∷ []
        → gathered t project done (drop i some) ≡ gathered t project now (drop (i + 1) some)
    step entry within is done now one e more = ap (gathered t project done) (left_at some i entry within is) ∙ one_more done entry one (drop (i + 1) some) e
        ∙ ap (λ all. gathered t project all (drop (i + 1) some)) (sym more)

    pub stop : (entry : Bor Locked) → i < length some → entry ≡ get_or some i entry → (done : List Placed) (refusal : Refusal) → placed_in t project entry.now ≡ Err refusal
        → gathered t project done (drop i some) ≡ Err refusal
    stop entry within is done refusal e = ap (gathered t project done) (left_at some i entry within is) ∙ refused done entry refusal (drop (i + 1) some) e

    pub end : length some ≤ i → (done : List Placed) → gathered t project done (drop i some) ≡ Ok done
    unfolding placed_each
    end all done = ap (gathered t project done) (drop_all i some all) ∙ ap Ok (append-nil done)

pub placed_refused : (t : FileTree) (project : List (List ℕ)) (some : List (Bor Locked)) (i : ℕ) (entry : Bor Locked) → i < length some → entry ≡ get_or some i entry → (done : List Placed) (refusal : Refusal)
    → placed_each t project (map shown some) ≡ gathered t project done (drop i some) → IsTrue (is_free refusal) ⊎ (placed_in t project entry.now ≡ Err refusal)
    → IsTrue (is_free refusal) ⊎ (placed_each t project (map shown some) ≡ Err refusal)
placed_refused t project some i entry within is done refusal so_far (inl free) = inl free
placed_refused t project some i entry within is done refusal so_far (inr e) = inr (so_far ∙ stop t project some i entry within is done refusal e)

-- ---- what is known of the packages

module _ (some : List (Bor Locked)) (i : ℕ) (entry : Bor Locked) (within : i < length some) (is : entry ≡ get_or some i entry) where
  both_here : AllByRecursion IsLocked (map shown (drop i some)) → AllByRecursion IsLocked (map shown (entry ∷ drop (i + 1) some))
  both_here all = subst (λ rest. AllByRecursion IsLocked (map shown rest)) (left_at some i entry within is) all

  pub formed_here : AllByRecursion IsLocked (map shown (drop i some)) → IsLocked entry.now
  formed_here all = (both_here all).0

  pub rest_shown : AllByRecursion IsLocked (map shown (drop i some)) → AllByRecursion IsLocked (map shown (drop (i + 1) some))
  rest_shown all = (both_here all).1

  pub names_more : (done : List Placed) (one : Placed) → map placed_name done ≡ map (λ entry. locked_name entry.now) (take i some) → placed_name one ≡ locked_name entry.now
      → map placed_name (done ++ one ∷ []) ≡ map (λ entry. locked_name entry.now) (take (i + 1) some)
  names_more done one so_far name =
      map-append placed_name done (one ∷ []) ∙ ap (λ names. names ++ placed_name one ∷ []) so_far ∙ ap (λ last. map (λ entry. locked_name entry.now) (take i some) ++ last ∷ []) name
      ∙ sym (ap (map (λ entry. locked_name entry.now)) (take_more some i entry within ∙ ap (λ last. take i some ++ last ∷ []) (sym is)) ∙ map-append (λ entry. locked_name entry.now) (take i some) (entry ∷ []))

-- one more of which the same is known
pub all_more : {X : Type 0} (P : X → Type 0) (xs : List X) (x : X) → AllByRecursion P xs → P x → AllByRecursion P (xs ++ x ∷ [])
all_more P [] x all one = (one, tt)
all_more P (y ∷ xs) x all one = (all.0, all_more P xs x all.1 one)
