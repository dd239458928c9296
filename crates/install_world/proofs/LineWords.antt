-- What the words of a line are not.
use Rattle.std.proofs.Common.{◌≡◌, ◌≢◌, ℕ, ◌<◌, ◌^◌, Bool, true, false, List, [], ◌∷◌, ◌++◌, Some, None, Ok, refl, sym, ap, ◌∙◌, subst, arith, inl, inr}
use Rattle.std.specs.Prelude.{◌↔◌, ◌⊎◌, IsTrue, codes, nat_eq}
use Rattle.std.specs.Str.{is_utf8, chars}
use Rattle.std.specs.Cmp.Lexicographic.{pointwise, bytes_decides}
use Rattle.std.proofs.lemmas.Bool.{false≢true}
use Rattle.std.proofs.lemmas.Fmt.{decimal_injective}
use Rattle.std.proofs.lemmas.List.{append_cancel_left}
use Rattle.hex.specs.Hex.{encode_lower, decode_of}
use Rattle.path_name.specs.Decimals.{number_in, decimal_text}
use Rattle.path_name.specs.Paths.{BeginsWith, IsPath, path_of, path_text}
use Rattle.path_name.proofs.DecimalTexts.{number_in-decimal_text}
use Rattle.path_name.proofs.PathTexts.{path_of-path_text}
use Rattle.install_world.specs.JournalText.{version_words, generation_words, mark_words, target_words, IsGeneration, IsMarkOf, IsTargetOf}
use Rattle.install_world.specs.declared.target.Target.{Target}
use Rattle.install_world.specs.declared.version.Version.{Version}
use Rattle.install_world.specs.declared.version.Version.TheVariants.{One, Two}
use Rattle.install_world.specs.Targets.{IsTargetPath, lock_target, vendor_target}
use Rattle.install_world.proofs.PathBytes.{path_in_hex, same_path}
use Rattle.install_world.proofs.TargetLines.{same_mark}

pub not_equal : (text other : List ℕ) → pointwise nat_eq text other ≡ false → text ≢ other
not_equal text other differs e = false≢true (sym differs ∙ (bytes_decides text other).1 e)

pub no_version : (words : List ℕ) → pointwise nat_eq words (codes "install-journal 1") ≡ false → pointwise nat_eq words (codes "install-journal 2") ≡ false
    → (version : Version) → words ≢ version_words version
no_version words one two One e = not_equal words (codes "install-journal 1") one e
no_version words one two Two e = not_equal words (codes "install-journal 2") two e

pub no_plain : (digits : List ℕ) → number_in digits ≡ None → (number : ℕ) → number < 2 ^ 64 → digits ≢ decimal_text number
no_plain digits none number small e =
    let read = number_in-decimal_text number small in
    cc

pub other_plain : (digits written : List ℕ) (found : ℕ) → number_in digits ≡ Some found → written ≡ decimal_text found → pointwise nat_eq written digits ≡ false
    → (number : ℕ) → number < 2 ^ 64 → digits ≢ decimal_text number
other_plain digits written found read is differs number small e =
    let again = number_in-decimal_text number small in
    let same : found ≡ number = cc in
    not_equal written digits differs (is ∙ ap decimal_text same ∙ sym e)

pub no_number : (text front written : List ℕ) → written ≡ front → ((rest : List ℕ) → text ≢ written ++ rest) → (rest : List ℕ) → text ≢ front ++ 32 ∷ rest
no_number text front written is none rest e = none (32 ∷ rest) (e ∙ ap (λ f. f ++ 32 ∷ rest) (sym is))

pub no_space : (text front written after : List ℕ) → written ≡ front → text ≡ written ++ after → ((rest : List ℕ) → after ≢ 32 ∷ rest) → (rest : List ℕ) → text ≢ front ++ 32 ∷ rest
no_space text front written after is cut none rest e = none rest (append_cancel_left front after (32 ∷ rest) (ap (λ f. f ++ after) (sym is) ∙ sym cut ∙ e))

pub space_found : (text front written after rest : List ℕ) → written ≡ front → text ≡ written ++ after → after ≡ 32 ∷ rest → text ≡ front ++ 32 ∷ rest
space_found text front written after rest is cut found = cut ∙ ap (λ f. f ++ after) is ∙ ap (λ a. front ++ a) found

pub no_generation : (words digits : List ℕ) → words ≡ codes "generation " ++ digits
    → ((number : ℕ) → number < 2 ^ 64 → digits ≢ decimal_text number)
    → (generation : ℕ) → IsGeneration generation → words ≢ generation_words generation
no_generation words digits cut none generation is e =
    none generation is.small (append_cancel_left (codes "generation ") digits (decimal_text generation) (sym cut ∙ e))

pub not_generation_0 : (words digits : List ℕ) → words ≡ codes "generation " ++ digits → digits ≡ decimal_text 0
    → (generation : ℕ) → IsGeneration generation → words ≢ generation_words generation
not_generation_0 words digits cut zero_digits generation is e =
    let same = append_cancel_left (codes "generation ") digits (decimal_text generation) (sym cut ∙ e) in
    let none : 0 ≡ generation = decimal_injective 0 generation (omega arith) is.small (sym zero_digits ∙ same) in
    let positive = is.positive in
    omega arith

pub any_mark : (version : Version) → IsMarkOf version false
any_mark One = refl
any_mark Two = tt

pub no_mark_one : (words : List ℕ) → ((rest : List ℕ) → words ≢ codes "move " ++ rest)
    → (gone : Bool) (rest : List ℕ) → IsMarkOf One gone → words ≢ mark_words gone ++ rest
no_mark_one words none false rest is e = none rest e
no_mark_one words none true rest is e = cc

pub no_mark_two : (words : List ℕ) → ((rest : List ℕ) → words ≢ codes "move " ++ rest) → ((rest : List ℕ) → words ≢ codes "gone " ++ rest)
    → (gone : Bool) (rest : List ℕ) → IsMarkOf Two gone → words ≢ mark_words gone ++ rest
no_mark_two words no_move no_gone false rest is e = no_move rest e
no_mark_two words no_move no_gone true rest is e = no_gone rest e

-- ---- digits that name no path

pub not_hex : (digits : List ℕ) → ((bytes : List ℕ) → decode_of digits ≢ Ok bytes)
    → (path : List (List ℕ)) → IsPath path → digits ≢ encode_lower (path_text path)
not_hex digits none path is e = none (path_text path) (ap decode_of e ∙ path_in_hex path is)

pub not_path : (digits text : List ℕ) → decode_of digits ≡ Ok text → ((path : List (List ℕ)) → path_of text ≢ Ok path)
    → (path : List (List ℕ)) → IsPath path → digits ≢ encode_lower (path_text path)
not_path digits text decoded none path is e =
    let read = path_in_hex path is in
    let again = path_of-path_text path is in
    let decodes : decode_of digits ≡ Ok (path_text path) = ap decode_of e ∙ read in
    let same : text ≡ path_text path = cc in
    none path (ap path_of same ∙ again)

pub not_own_text : (digits text written : List ℕ) (found : List (List ℕ)) → decode_of digits ≡ Ok text → path_of text ≡ Ok found
    → written ≡ encode_lower (path_text found) → pointwise nat_eq written digits ≡ false
    → (path : List (List ℕ)) → IsPath path → digits ≢ encode_lower (path_text path)
not_own_text digits text written found decoded named own differs path is e =
    let read = path_in_hex path is in
    let again = path_of-path_text path is in
    let decodes : decode_of digits ≡ Ok (path_text path) = ap decode_of e ∙ read in
    let texts : text ≡ path_text path = cc in
    let names : path_of text ≡ Ok path = ap path_of texts ∙ again in
    let same : found ≡ path = cc in
    not_equal written digits differs (own ∙ ap (λ p. encode_lower (path_text p)) same ∙ sym e)

pub not_target : (digits : List ℕ) (found : List (List ℕ)) (is_target : Bool) → IsPath found × (digits ≡ encode_lower (path_text found)) → (IsTrue is_target ↔ IsTargetPath found)
    → is_target ≡ false → (path : List (List ℕ)) → IsTargetPath path → digits ≢ encode_lower (path_text path)
not_target digits found is_target own tells fails path is e =
    let same : path ≡ found = same_path path found is.segments own.0 (sym e ∙ own.1) in
    let passes : is_target ≡ true = tells.1 (subst IsTargetPath same is) in
    cc

pub no_target : (version : Version) (number : ℕ) (words rest : List ℕ) (gone : Bool) → words ≡ mark_words gone ++ (decimal_text number ++ 32 ∷ rest)
    → ((path : List (List ℕ)) → IsTargetPath path → rest ≢ encode_lower (path_text path)) → (target : Target) → IsTargetOf version target → words ≢ target_words number target
no_target version number words rest gone cut none target is e =
    let mark : gone ≡ target.gone = same_mark gone target.gone _ _ (sym cut ∙ e) in
    let numbered = append_cancel_left (mark_words target.gone) (decimal_text number ++ 32 ∷ rest) (decimal_text number ++ 32 ∷ encode_lower (path_text target.path))
    (ap (λ g. mark_words g ++ (decimal_text number ++ 32 ∷ rest)) (sym mark) ∙ sym cut ∙ e) in
    let digits = append_cancel_left (decimal_text number) (32 ∷ rest) (32 ∷ encode_lower (path_text target.path)) numbered in
    none target.path is.place (cc digits)

-- ---- targets

pub lock_is_path : IsPath lock_target
unfolding is_utf8 chars lib.Utf8.encode
lock_is_path = refl

pub target_by_first : (path : List (List ℕ)) (first : List ℕ) → IsPath path → BeginsWith path (first ∷ []) → pointwise nat_eq first (codes "vendor") ≡ true → IsTargetPath path
target_by_first path first is begins vendor = record {
  segments = is;
  place = inr (begins.0, begins.1 ∙ ap (λ s. s ∷ begins.0) ((bytes_decides first (codes "vendor")).0 vendor));
}

pub target_by_text : (path : List (List ℕ)) (first text : List ℕ) (lock : Bool) → IsPath path → BeginsWith path (first ∷ []) → pointwise nat_eq first (codes "vendor") ≡ false
    → text ≡ path_text path → lock ≡ pointwise nat_eq text (codes "composer.lock") → (IsTrue lock ↔ IsTargetPath path)
target_by_text path first text lock is begins other written tells = (to, from)
  where
    to : IsTrue lock → IsTargetPath path
    to passes =
        let same : path_text path ≡ codes "composer.lock" = sym written ∙ (bytes_decides text (codes "composer.lock")).0 (sym tells ∙ passes) in
        let one = path_of-path_text path is in
        let two = path_of-path_text lock_target lock_is_path in
        let three = ap path_of same in
        record { segments = is; place = inl (cc (one, two, three)) }

    by : (path ≡ lock_target) ⊎ BeginsWith path vendor_target → IsTrue lock
    by (inl is_lock) = tells ∙ (bytes_decides text (codes "composer.lock")).1 (written ∙ ap path_text is_lock)
    by (inr vendor) =
        let both = sym begins.1 ∙ vendor.1 in
        let same : first ≡ codes "vendor" = cc both in
        absurd (not_equal first (codes "vendor") other same)

    from : IsTargetPath path → IsTrue lock
    from target = by target.place
