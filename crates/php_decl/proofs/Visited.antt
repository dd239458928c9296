-- What a lexeme does where it stands.
use Rattle.std.proofs.Common.{◌≡◌, ℕ, Bool, true, false, ◌&&◌, ◌||◌, List, [], ◌∷◌, ◌++◌, Option, Some, None, ◌∙◌, sym, ap, refl, append_assoc}
use Rattle.std.specs.Prelude.{codes}
use Rattle.std.specs.Borrow.{Bor}
use Rattle.std.specs.Cmp.Lexicographic.{bytes_decides}
use Rattle.std.proofs.lemmas.List.{append-nil}
use Rattle.path_name.specs.Bytes.{lowered}
use Rattle.path_name.specs.Orders.{bytes_are_equal}
use Rattle.php_lex.specs.Cut.{Lex, Standing, IsCut, IsCutOf, start_of}
use Rattle.php_decl.specs.Declarations.{is_plain, is_member, solid, Stand, stands, stands_after, follows_member, is_keyword, is_declaring, identifier_of, declared_by, namespace_by, is_halting, or_earlier, namespace_after, is_halted_after, in_namespace, declared_at, declared_from, names_of}
use Rattle.php_decl.specs.Quiet.{IsQuiet}
use Rattle.php_decl.proofs.Silence.{silence}
use Rattle.php_decl.specs.Words.{equals_word, is_declaring_word, NextSolid, Visits, Behind}

and_true : (b : Bool) → b && true ≡ b
and_true true = refl
and_true false = refl

and_false : (b : Bool) → b && false ≡ false
and_false true = refl
and_false false = refl

-- words are apart
pub other_word : (w v bytes : List ℕ) → equals_word w bytes ≡ true → bytes_are_equal w v ≡ false → equals_word v bytes ≡ false
other_word w v bytes h n = ap (λ (b : List ℕ). bytes_are_equal b v) ((bytes_decides (lowered bytes) w).0 h) ∙ n

either_false : (a b : Bool) → a ≡ false → b ≡ false → a || b ≡ false
either_false a b e f = rw (e, f) refl

pub no_declaring : (w bytes : List ℕ) → equals_word w bytes ≡ true → bytes_are_equal w (codes "class") ≡ false → bytes_are_equal w (codes "interface") ≡ false → bytes_are_equal w (codes "trait") ≡ false → bytes_are_equal w (codes "enum") ≡ false
    → is_declaring_word bytes ≡ false
no_declaring w bytes h a b c d =
    rw (other_word w (codes "class") bytes h a, other_word w (codes "interface") bytes h b, other_word w (codes "trait") bytes h c, other_word w (codes "enum") bytes h d) refl

-- ---- keywords, by what the lexeme is

module _ (x : Lex) (previous : Option Lex) (behind : List Lex) where
  abbrev pub stand : Stand
  stand = record { previous = previous; here = x; behind = behind }

  none_other : is_plain x.kind ≡ false → (w : List ℕ) → is_keyword w stand ≡ false
  none_other p w = rw p refl

  none_member : follows_member previous ≡ true → (w : List ℕ) → is_keyword w stand ≡ false
  none_member m w = rw m (and_false (is_plain x.kind && bytes_are_equal (lowered x.bytes) w))

  by_word : is_plain x.kind ≡ true → follows_member previous ≡ false → (w : List ℕ) → is_keyword w stand ≡ equals_word w x.bytes
  by_word p m w = rw (p, m) (and_true (bytes_are_equal (lowered x.bytes) w))

  declaring_is : is_plain x.kind ≡ true → follows_member previous ≡ false → is_declaring stand ≡ is_declaring_word x.bytes
  declaring_is p m = rw (by_word p m (codes "class"), by_word p m (codes "interface"), by_word p m (codes "trait"), by_word p m (codes "enum")) refl

  declares : is_declaring stand ≡ true → declared_by stand ≡ identifier_of behind
  declares d = rw d refl

  no_namespace : is_keyword (codes "namespace") stand ≡ false → namespace_by stand ≡ None
  no_namespace n = rw n refl

  pub by_declaring_word : is_plain x.kind ≡ true → follows_member previous ≡ false → is_declaring_word x.bytes ≡ true → equals_word (codes "namespace") x.bytes ≡ false → equals_word (codes "__halt_compiler") x.bytes ≡ false
      → (declared_by stand ≡ identifier_of behind) × (is_halting stand ≡ false) × (namespace_by stand ≡ None)
  by_declaring_word p m d n h = (declares (declaring_is p m ∙ d), by_word p m (codes "__halt_compiler") ∙ h, no_namespace (by_word p m (codes "namespace") ∙ n))

-- ---- over the whole list

-- behind a halting word nothing is declared
pub halted : (earlier later : List Stand) → is_halted_after earlier ≡ true → declared_from earlier later ≡ []
halted earlier [] h = refl
halted earlier (s ∷ later) h = rw h (halted (s ∷ earlier) later (later_too (is_halting s) (is_halted_after earlier) h)) where
  later_too : (a b : Bool) → b ≡ true → a || b ≡ true
  later_too true b e = refl
  later_too false b e = e

declared_here : (earlier : List Stand) (s : Stand) (namespace : List ℕ) → is_halted_after earlier ≡ false → namespace_after earlier ≡ namespace → declared_at earlier s ≡ in_namespace namespace (declared_by s)
declared_here earlier s namespace g e = rw g (ap (λ (n : List ℕ). in_namespace n (declared_by s)) e)

one_more : (earlier : List Stand) (s : Stand) (later : List Stand) (names new all : List (List ℕ)) (namespace : List ℕ) → is_halted_after earlier ≡ false → namespace_after earlier ≡ namespace
    → names ++ declared_from earlier (s ∷ later) ≡ all → new ≡ names ++ in_namespace namespace (declared_by s) → new ++ declared_from (s ∷ earlier) later ≡ all
one_more earlier s later names new all namespace g e h n =
    ap (λ (z : List (List ℕ)). z ++ declared_from (s ∷ earlier) later) n
    ∙ append_assoc names (in_namespace namespace (declared_by s)) (declared_from (s ∷ earlier) later)
    ∙ ap (λ (z : List (List ℕ)). names ++ (z ++ declared_from (s ∷ earlier) later)) (sym (declared_here earlier s namespace g e))
    ∙ h

pub at_start : (text : List ℕ) (lexemes : List Lex) → IsCut text lexemes → Behind (start_of text) false [] [] lexemes
unfolding names_of
at_start text lexemes x = record { more = lexemes; previous = None; earlier = []; cut = x; member = refl; goes_on = refl; in_force = refl; all = refl }

-- what the next lexeme does, where the names so far and those from there on are all names
module _ (s new : Standing) (x : Lex) (member : Bool) (namespace : List ℕ) (old names : List (List ℕ)) (lexemes : List Lex) (step : NextSolid s x new) (b : Behind s member namespace old lexemes) where
  open_stand : Stand
  open_stand = record { previous = b.previous; here = x; behind = solid (step.on b.more b.cut).0 }

  all_here : old ++ declared_from b.earlier (open_stand ∷ stands_after (Some x) (solid (step.on b.more b.cut).0)) ≡ names_of lexemes
  unfolding open_stand
  all_here = ap (λ (z : List Lex). old ++ declared_from b.earlier (stands_after b.previous z)) (sym (step.on b.more b.cut).2) ∙ b.all

  pub goes_on : (after : Bor (List ℕ)) → Visits x member new namespace old names (Some after) → Behind new (is_member x.kind) after.now names lexemes
  unfolding open_stand
  goes_on after v =
      let y = step.on b.more b.cut in
      let w = v b.previous y.0 b.member y.1 in
      record {
        more = y.0;
        previous = Some x;
        earlier = open_stand ∷ b.earlier;
        cut = y.1;
        member = refl;
        goes_on = neither (is_halting open_stand) (is_halted_after b.earlier) w.1.0 b.goes_on;
        in_force = ap (λ (n : List ℕ). or_earlier (namespace_by open_stand) n) b.in_force ∙ sym w.1.1;
        all = one_more b.earlier open_stand (stands_after (Some x) (solid y.0)) old names (names_of lexemes) namespace b.goes_on b.in_force all_here w.0;
      }
    where
      neither : (p q : Bool) → p ≡ false → q ≡ false → p || q ≡ false
      neither p q e f = rw (e, f) refl

  pub stops : Visits x member new namespace old names None → names ≡ names_of lexemes
  unfolding open_stand
  stops v =
      let y = step.on b.more b.cut in
      let w = v b.previous y.0 b.member y.1 in
      let later = stands_after (Some x) (solid y.0) in
      sym (append-nil names)
      ∙ ap (λ (z : List (List ℕ)). names ++ z) (sym (halted (open_stand ∷ b.earlier) later (first (is_halting open_stand) (is_halted_after b.earlier) w.1)))
      ∙ one_more b.earlier open_stand later old names (names_of lexemes) namespace b.goes_on b.in_force all_here w.0
    where
      first : (p q : Bool) → p ≡ true → p || q ≡ true
      first p q e = rw e refl

pub at_end : (s : Standing) (member : Bool) (namespace : List ℕ) (names : List (List ℕ)) (lexemes : List Lex) → Behind s member namespace names lexemes → ((more : List Lex) → IsCutOf s more → solid more ≡ []) → names ≡ names_of lexemes
at_end s member namespace names lexemes b none =
    sym (append-nil names) ∙ ap (λ (z : List Lex). names ++ declared_from b.earlier (stands_after b.previous z)) (sym (none b.more b.cut)) ∙ b.all

-- where nothing more can be declared
pub at_quiet : (s : Standing) (member : Bool) (namespace : List ℕ) (names : List (List ℕ)) (lexemes : List Lex) → Behind s member namespace names lexemes → IsQuiet s.rest → names ≡ names_of lexemes
at_quiet s member namespace names lexemes b q =
    sym (append-nil names) ∙ ap (λ (z : List (List ℕ)). names ++ z) (sym (silence b.cut q b.earlier b.previous)) ∙ b.all
