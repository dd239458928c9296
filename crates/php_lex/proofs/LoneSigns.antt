-- Signs that are nothing but a mark before the next byte, by a table of what they want and one of what bytes answer to.
use Rattle.std.proofs.Common.{◌≡◌, ℕ, ◌<◌, Bool, true, false, ◌||◌, ◌==◌, ◌⊎◌, List, ◌∷◌, get_or, bit_and, refl, sym, subst, ◌∙◌, inl, inr, arith}
use Rattle.std.specs.Prelude.{not}
use Rattle.std.proofs.lemmas.Bool.{eqb-true}
use Rattle.path_name.specs.Bytes.{starts_identifier}
use Rattle.php_lex.specs.declared.lexeme.LexKind.TheVariants as kinds
use Rattle.php_lex.specs.declared.signs.TheConstants.{WANTS, ANSWERS}
use Rattle.php_lex.specs.Lexemes.{Whole, taken}
use Rattle.php_lex.specs.Lengths.{IsMarkBefore}
use Rattle.php_lex.proofs.Tables.{agree_below, agree_at}
use Rattle.php_lex.proofs.Wholes.{taken_word}

or_left : (a b : Bool) → a || b ≡ false → a ≡ false
or_left true b h = absurd cc
or_left false b h = refl

or_right : (a b : Bool) → a || b ≡ false → b ≡ false
or_right true b h = absurd cc
or_right false b h = h

not_false : (a : Bool) → not a ≡ true → a ≡ false
not_false true h = absurd cc
not_false false h = refl

not_true : (a : Bool) → not a ≡ false → a ≡ true
not_true true h = refl
not_true false h = absurd cc

either : (a : Bool) → (a ≡ true) ⊎ (a ≡ false)
either true = inl refl
either false = inr refl

clash : false ≡ true → ⊥
clash h = cc

-- no bit that is wanted is among those that the byte answers to
abbrev IsSilent : ℕ → ℕ → Type 0
IsSilent wanted b = (bit_and wanted (get_or ANSWERS b 0) == 0) ≡ true

silent : (wanted : ℕ) (test : ℕ → Bool) → agree_below (λ (x : ℕ). bit_and wanted (get_or ANSWERS x 0) == 0) (λ (x : ℕ). not (test x)) 256 ≡ true
    → (b : ℕ) → b < 256 → IsSilent wanted b → test b ≡ false
silent wanted test table b lt h =
    not_false (test b) (sym (agree_at (λ (x : ℕ). bit_and wanted (get_or ANSWERS x 0) == 0) (λ (x : ℕ). not (test x)) 256 table b lt) ∙ h)

-- the byte is a mark before such a one
abbrev Stays : ℕ → ℕ → Type 0
Stays byte wanted = (b : ℕ) (rest : List ℕ) → b < 256 → IsSilent wanted b → taken (byte ∷ b ∷ rest) ≡ Whole kinds.Mark (b ∷ rest)

dollar : Stays 36 1
unfolding agree_below
dollar b rest lt h =
    let e : starts_identifier b ≡ false = silent 1 starts_identifier refl b lt h in
    taken_word (36 ∷ b ∷ rest) refl refl refl refl ∙ rw e refl

backslash : Stays 92 1
unfolding agree_below
backslash b rest lt h =
    let e : starts_identifier b ≡ false = silent 1 starts_identifier refl b lt h in
    taken_word (92 ∷ b ∷ rest) refl refl refl refl ∙ rw e refl

hyphen : Stays 45 2
unfolding agree_below
hyphen b rest lt h =
    let e : (b == 62) ≡ false = silent 2 (λ (x : ℕ). x == 62) refl b lt h in
    taken_word (45 ∷ b ∷ rest) refl refl refl refl ∙ rw e refl

question : Stays 63 10
unfolding agree_below
question b rest lt h =
    let e : (b == 62 || b == 45) ≡ false = silent 10 (λ (x : ℕ). x == 62 || x == 45) refl b lt h in
    let closes : (b == 62) ≡ false = or_left (b == 62) (b == 45) e in
    let goes_on : (b == 45) ≡ false = or_right (b == 62) (b == 45) e in
    taken_word (63 ∷ b ∷ rest) refl (rw closes refl) refl refl ∙ rw goes_on refl

colon : Stays 58 4
unfolding agree_below
colon b rest lt h =
    let e : (b == 58) ≡ false = silent 4 (λ (x : ℕ). x == 58) refl b lt h in
    taken_word (58 ∷ b ∷ rest) refl refl refl refl ∙ rw e refl

slash : Stays 47 16
unfolding agree_below
slash b rest lt h =
    let e : (b == 47 || b == 42) ≡ false = silent 16 (λ (x : ℕ). x == 47 || x == 42) refl b lt h in
    let line : (b == 47) ≡ false = or_left (b == 47) (b == 42) e in
    let block : (b == 42) ≡ false = or_right (b == 47) (b == 42) e in
    taken_word (47 ∷ b ∷ rest) refl refl (rw (line, block) refl) refl

less : Stays 60 32
unfolding agree_below
less b rest lt h =
    let e : (b == 60) ≡ false = silent 32 (λ (x : ℕ). x == 60) refl b lt h in
    taken_word (60 ∷ b ∷ rest) refl refl refl (rw e refl)

number : Stays 35 64
unfolding agree_below
number b rest lt h =
    let e : (b == 91) ≡ true = not_true (b == 91) (silent 64 (λ (x : ℕ). not (x == 91)) refl b lt h) in
    taken_word (35 ∷ b ∷ rest) refl refl (rw e refl) refl

-- a byte that is none of these wants what every byte answers to
never : (a b : ℕ) → a < 256 → b < 256 → (a == 36 || (a == 92 || (a == 45 || (a == 63 || (a == 58 || (a == 47 || (a == 60 || a == 35))))))) ≡ false → IsSilent (get_or WANTS a 0) b → ⊥
unfolding agree_below
never a b la lb none h =
    let wants : (get_or WANTS a 0 == 128) ≡ true =
    agree_at (λ (x : ℕ). get_or WANTS x 0 == 128) (λ (x : ℕ). not (x == 36 || (x == 92 || (x == 45 || (x == 63 || (x == 58 || (x == 47 || (x == 60 || x == 35)))))))) 256 refl a la
    ∙ rw none refl in
    let answers : (bit_and 128 (get_or ANSWERS b 0) == 0) ≡ false = agree_at (λ (x : ℕ). bit_and 128 (get_or ANSWERS x 0) == 0) (λ (x : ℕ). false) 256 refl b lb in
    clash (sym answers ∙ subst (λ (x : ℕ). IsSilent x b) (eqb-true (get_or WANTS a 0) 128 wants) h)

lone : (a b : ℕ) → a < 256 → b < 256 → IsSilent (get_or WANTS a 0) b → (rest : List ℕ) → taken (a ∷ b ∷ rest) ≡ Whole kinds.Mark (b ∷ rest)
lone a b la lb h rest =
    elim (either (a == 36)) [
      | inl is ↦ among 36 is dollar
      | inr n36 ↦
          elim (either (a == 92)) [
            | inl is ↦ among 92 is backslash
            | inr n92 ↦
                elim (either (a == 45)) [
                  | inl is ↦ among 45 is hyphen
                  | inr n45 ↦
                      elim (either (a == 63)) [
                        | inl is ↦ among 63 is question
                        | inr n63 ↦
                            elim (either (a == 58)) [
                              | inl is ↦ among 58 is colon
                              | inr n58 ↦
                                  elim (either (a == 47)) [
                                    | inl is ↦ among 47 is slash
                                    | inr n47 ↦
                                        elim (either (a == 60)) [
                                          | inl is ↦ among 60 is less
                                          | inr n60 ↦
                                              elim (either (a == 35)) [
                                                | inl is ↦ among 35 is number
                                                | inr n35 ↦
                                                    absurd (never a b la lb (rw (n36, n92, n45, n63, n58, n47, n60, n35) refl) h)
                                              ]
                                        ]
                                  ]
                            ]
                      ]
                ]
          ]
    ] where
      among : (n : ℕ) → (a == n) ≡ true → Stays n (get_or WANTS n 0) → taken (a ∷ b ∷ rest) ≡ Whole kinds.Mark (b ∷ rest)
      among n is stays =
          let same : a ≡ n = eqb-true a n is in
          subst (λ (x : ℕ). taken (x ∷ b ∷ rest) ≡ Whole kinds.Mark (b ∷ rest)) (sym same) (stays b rest lb (subst (λ (x : ℕ). IsSilent (get_or WANTS x 0) b) same h))

pub lone_mark : (a b : ℕ) → a < 256 → b < 256 → IsSilent (get_or WANTS a 0) b → IsMarkBefore a b
lone_mark a b la lb h rest = (omega arith, lone a b la lb h rest)
