-- The installed.json of a lock without packages.
use Rattle.std.proofs.Common.{◌≡◌, ℕ, false, List, [], ◌∷◌, ◌++◌, length, ap, ◌∙◌, arith}
use Rattle.std.specs.List.Sorted.{IsPermutation}
use Rattle.std.proofs.lemmas.List.Sorted.{length_permutation}
use Rattle.json_ordered.specs.JsonTexts.{pretty_text}
use Rattle.lock_file.specs.InstalledText.{IsInstalledText, entries_tree, installed_json, names_tree}
use Rattle.lock_file.specs.declared.types.Lock.{Lock}
use Rattle.lock_file.specs.declared.types.Locked.{Locked}
use Rattle.dump_command.specs.Dumping.{none_installed}

no_items : (xs : List Locked) → length xs ≡ 0 → xs ≡ []
no_items [] e = cc
no_items (x ∷ xs) e = absurd (omega (arith, e))

none_left : (before after : List Locked) → before ≡ [] → IsPermutation before after → after ≡ []
none_left before after none same = no_items after (length_permutation before after same ∙ ap length none)

pub none_text : (lock : Lock) (text : List ℕ) → lock.packages ≡ [] → IsInstalledText lock false text → text ≡ none_installed
unfolding none_installed
none_text lock text none is =
    let entries = none_left (lock.packages ++ []) is.entries (ap (λ (xs : List Locked). xs ++ []) none) is.by_name.same in
    let dev = none_left [] is.dev_entries (let same : ◌≡◌ {A = List Locked} [] [] = cc in same) is.dev_by_name.same in
    is.text ∙ ap (λ (xs : List Locked). pretty_text (installed_json false (entries_tree xs) (names_tree is.dev_entries)) ++ 10 ∷ []) entries
    ∙ ap (λ (xs : List Locked). pretty_text (installed_json false (entries_tree []) (names_tree xs)) ++ 10 ∷ []) dev
