-- What `lookup` opens of a class on which tables and rows agree.
use Rattle.std.proofs.Common.{◌≡◌, ℕ, Bool, true, false, cond, List, Option, Some, Result, Ok, Err, IsTrue, refl, sym, ap, subst, ◌∙◌}
use Rattle.path_name.specs.Given.{◌>>=◌}
use Rattle.tree_dev.specs.Trees.{FileTree}
use Rattle.class_lookup.specs.ClassNames.{class_name_of, without_lead}
use Rattle.class_lookup.specs.Lookup.{has_file, lookup_in}
use Rattle.class_lookup.specs.declared.fault.LookupFault.{LookupFault}
use Rattle.class_lookup.specs.declared.fault.LookupFault.TheVariants.{BadName}
use Rattle.class_paths.specs.ClassNames.{IsClassName, is_class_name}
use Rattle.class_paths.specs.Search.{Listed, search_file}
use Rattle.class_paths.specs.declared.types.Route.{Route}
use Rattle.table_scan.specs.declared.types.Tables.{Tables}
use Rattle.run_answers.specs.declared.refusal.Refusal.{Refusal}
use Rattle.composer_top.specs.Opened.{AreTablesStanding, searched_in}
use Rattle.composer_top.specs.Outcome.Lookup.{found_in, lookup_outcome, named, or_nothing, or_refused}
use Rattle.composer_top.proofs.LookedUp.{word_looked_up}

-- what a word names is a class name
pub names_class : (word name : List ℕ) → named word ≡ Ok name → IsClassName name
unfolding class_name_of
names_class word name is = by (is_class_name (without_lead word)) refl is
  where
    same : (one other : List ℕ) → ◌≡◌ {A = Result (List ℕ) Refusal} (Ok one) (Ok other) → one ≡ other
    same one other e = cc

    by : (b : Bool) → is_class_name (without_lead word) ≡ b
        → ◌≡◌ {A = Result (List ℕ) Refusal} (or_refused (cond b (Ok (without_lead word)) (Err BadName))) (Ok name) → IsClassName name
    by true e f = subst IsClassName (same (without_lead word) name f) e
    by false e f = absurd cc

module _ (project : List (List ℕ)) (u : FileTree) (tables : Tables) (standing : AreTablesStanding project u tables) (routes : List Route) (listed : List Listed) (word name : List ℕ) (is : named word ≡ Ok name) where
  found_as : lookup_in tables (has_file u) name ≡ search_file (has_file u) routes listed name → found_in u tables name ≡ or_nothing (search_file (has_file u) routes listed name)
  unfolding found_in
  found_as agree = ap or_nothing agree

  pub agreed : lookup_in tables (has_file u) name ≡ search_file (has_file u) routes listed name → lookup_outcome u project word ≡ searched_in u routes listed word
  agreed agree =
      word_looked_up project u tables standing word
      ∙ ap (λ (some : Result (List ℕ) Refusal). some >>= found_in u tables) is
      ∙ found_as agree
      ∙ sym (ap (λ (some : Result (List ℕ) Refusal). some >>= λ one. or_nothing (search_file (has_file u) routes listed one)) is)
