-- An opening behind so many bytes more.
use Rattle.std.proofs.Common.{◌≡◌, ℕ, ◌+◌, ◌-◌, ◌<◌, ◌≤◌, Bool, true, false, ◌&&◌, ◌==◌, List, [], ◌∷◌, length, take, drop, Option, Some, None, cond, refl, sym, ap, subst, ◌∙◌, arith}
use Rattle.std.specs.Prelude.{not}
use Rattle.std.proofs.lemmas.Bool.{eqb-true}
use Rattle.path_name.specs.Bytes.{starts_identifier, continues_identifier}
use Rattle.php_lex.specs.Places.{has_first, run_of, after_run, is_space, is_line_end}
use Rattle.std.proofs.lemmas.List.{drop-drop, length-drop}
use Rattle.php_lex.specs.Quotes.{Element, Nowdoc, Heredoc, Opened, is_labelled, labelled, label, opens_heredoc, heredoc}
use Rattle.php_lex.proofs.Firsts.{first_within}

-- where an element opens, by a length
abbrev pub OpensAt : List ℕ → ℕ → Element → Option Opened → Type 0
OpensAt text len e wanted = (0 < len) × (len ≤ length text) × (wanted ≡ Some (record { element = e; inside = drop len text }))

pub shifted : (text : List ℕ) (n len : ℕ) (rest : List ℕ) (e : Element) (wanted : Option Opened) → rest ≡ drop n text → n ≤ length text → OpensAt rest len e wanted → OpensAt text (n + len) e wanted
shifted text n len rest e wanted is le h =
    let l : length rest ≡ length text - n = ap length is ∙ length-drop n text in
    let some = h.0 in
    let within = h.1 in
    (omega arith, omega arith, h.2 ∙ ap (λ (inside : List ℕ). Some (record { element = e; inside = inside })) (ap (drop len) is ∙ drop-drop len n text))

if_yes : (t : Bool) (x : Option Opened) → t ≡ true → (cond t x None) ≡ x
if_yes true x h = refl
if_yes false x h = absurd cc

if_no : (t : Bool) (x : Option Opened) → t ≡ false → (cond t x None) ≡ None
if_no true x h = absurd cc
if_no false x h = refl

-- a label before a quote, by what the bytes behind the identifier are
module _ (quote : ℕ) (inside : List ℕ) (len : ℕ) (run : take len inside ≡ run_of continues_identifier inside) (rest : drop len inside ≡ after_run continues_identifier inside)
    (a b d : Bool) (starts : a ≡ has_first starts_identifier inside) (closes : b ≡ has_first (λ x. x == quote) (drop len inside)) (line : d ≡ has_first is_line_end (drop (len + 1) inside)) where
  is_labelled_is : is_labelled (quote ∷ []) inside ≡ (a && b) && d
  is_labelled_is =
      ap (λ (r : List ℕ). (has_first starts_identifier inside && has_first (λ x. x == quote) r) && has_first is_line_end (drop 1 r)) (sym rest)
      ∙ ap (λ (r : List ℕ). (has_first starts_identifier inside && has_first (λ x. x == quote) (drop len inside)) && has_first is_line_end r) (drop-drop 1 len inside)
      ∙ cc

  pub labelled_yes : (kind : List ℕ → Element) → (a && b) && d ≡ true → labelled (quote ∷ []) kind inside ≡ Some (record { element = kind (take len inside); inside = drop (len + 1) inside })
  labelled_yes kind h =
      if_yes (is_labelled (quote ∷ []) inside) _ (is_labelled_is ∙ h)
      ∙ ap (λ (r : List ℕ). Some (record { element = kind r; inside = drop 1 (after_run continues_identifier inside) })) (sym run)
      ∙ ap (λ (r : List ℕ). Some (record { element = kind (take len inside); inside = r })) (ap (drop 1) (sym rest) ∙ drop-drop 1 len inside)

  pub labelled_no : (kind : List ℕ → Element) → (a && b) && d ≡ false → labelled (quote ∷ []) kind inside ≡ None
  labelled_no kind h = if_no (is_labelled (quote ∷ []) inside) _ (is_labelled_is ∙ h)

pub label_single : (text : List ℕ) → has_first (λ b. b == 39) text ≡ true → label text ≡ labelled (39 ∷ []) Nowdoc (drop 1 text)
label_single text h = rw h refl

pub label_double : (text : List ℕ) → has_first (λ b. b == 39) text ≡ false → has_first (λ b. b == 34) text ≡ true → label text ≡ labelled (34 ∷ []) Heredoc (drop 1 text)
label_double text g h = rw (g, h) refl

pub label_bare : (text : List ℕ) → has_first (λ b. b == 39) text ≡ false → has_first (λ b. b == 34) text ≡ false → label text ≡ labelled [] Heredoc text
label_bare text g h = rw (g, h) refl

last_of_three : (a b c : Bool) → a && (b && (c && true)) ≡ true → c ≡ true
last_of_three true true c h = let e : c && true ≡ true = h in and_true c e where
  and_true : (c : Bool) → c && true ≡ true → c ≡ true
  and_true true h = refl
  and_true false h = absurd cc
last_of_three true false c h = absurd cc
last_of_three false b c h = absurd cc

pub heredoc_long : (text : List ℕ) → opens_heredoc text ≡ true → 3 ≤ length text
heredoc_long text h = let lt = first_within (λ c. c == 60) 2 text (last_of_three (has_first (λ c. c == 60) text) (has_first (λ c. c == 60) (drop 1 text)) (has_first (λ c. c == 60) (drop 2 text)) h) in omega arith

pub heredoc_yes : (text : List ℕ) → opens_heredoc text ≡ true → heredoc text ≡ label (after_run is_space (drop 3 text))
heredoc_yes text h = rw h refl

pub heredoc_no : (text : List ℕ) → opens_heredoc text ≡ false → heredoc text ≡ None
heredoc_no text h = rw h refl

-- behind `<<<` and a further `<` stands no label
less_label : (text : List ℕ) → has_first (λ b. b == 60) text ≡ true → label (after_run is_space text) ≡ None
less_label [] h = absurd cc
less_label (b ∷ t) h = subst (λ (x : ℕ). label (after_run is_space (x ∷ t)) ≡ None) (sym (eqb-true b 60 h)) refl

pub no_heredoc : (text : List ℕ) (a b : Bool) → a ≡ opens_heredoc text → b ≡ has_first (λ x. x == 60) (drop 3 text) → a && not b ≡ false → heredoc text ≡ None
no_heredoc text false b e f h = heredoc_no text (sym e)
no_heredoc text true false e f h = absurd cc
no_heredoc text true true e f h = heredoc_yes text (sym e) ∙ less_label (drop 3 text) (sym f)
