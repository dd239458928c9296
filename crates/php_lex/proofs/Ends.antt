-- The end of an element, by the piece that stands first in it.
use Rattle.std.proofs.Common.{◌≡◌, ℕ, zero, suc, ◌+◌, ◌<◌, List, [], drop, subst, add-one, arith}
use Rattle.php_lex.specs.Quotes.{Element}
use Rattle.php_lex.specs.Elements.{Close, Plain, Child, piece_in, Allows, Ends, close, plain, child}
use Rattle.php_lex.specs.Pieces.{SameEnd}

pub after_plain : {l : ℕ} {e : Element} {t n r : List ℕ} → piece_in e t ≡ Plain n → Ends l e t r → Ends l e n r
after_plain p (close q) = absurd cc
after_plain {l} {e} {t} {n} {r} p (plain {next = n2} q m) = let en : n2 ≡ n = cc in subst (λ (x : List ℕ). Ends l e x r) en m
after_plain p (child q a b m) = absurd cc

pub after_close : {l : ℕ} {e : Element} {t n r : List ℕ} → piece_in e t ≡ Close n → Ends l e t r → n ≡ r
after_close p (close q) = cc
after_close p (plain q m) = absurd cc
after_close p (child q a b m) = absurd cc

-- a child that opens is closed, and then the element
pub record HasChild (l : ℕ) (e o : Element) (n r : List ℕ) : Type 0 where
  pub inner : ℕ
  pub after : List ℕ
  pub allows : Allows l o inner
  pub ends : Ends inner o n after
  pub rest : Ends l e after r

pub after_child : {l : ℕ} {e o : Element} {t n r : List ℕ} → piece_in e t ≡ Child o n → Ends l e t r → HasChild l e o n r
after_child p (close q) = absurd cc
after_child p (plain q m) = absurd cc
after_child {l} {e} {o} {t} {n} {r} p (child {inner = i} {opened = o2} {next = n2} {after = a} q w b m) =
    let eo : o2 ≡ o = cc in
    let en : n2 ≡ n = cc in
    record {
      inner = i;
      after = a;
      allows = subst (λ (x : Element). Allows l x i) eo w;
      ends = subst (λ (x : Element). Ends i x n a) eo (subst (λ (x : List ℕ). Ends i o2 x a) en b);
      rest = m;
    }

pub never : {l : ℕ} {e : Element} {r : List ℕ} → Ends l e [] r → ⊥
unfolding piece_in
never (close q) = cc
never (plain q m) = cc
never (child q a b m) = cc

-- ---- places of the same end

pub same_refl : (e : Element) (t : List ℕ) → SameEnd e t t
same_refl e t = record { on = λ l r x. x; back = λ l r x. x }

pub same_trans : {e : Element} {a b c : List ℕ} → SameEnd e a b → SameEnd e b c → SameEnd e a c
same_trans f g = record { on = λ l r x. g.on l r (f.on l r x); back = λ l r x. f.back l r (g.back l r x) }

pub same_plain : {e : Element} {t n : List ℕ} → piece_in e t ≡ Plain n → SameEnd e t n
same_plain p = record { on = λ l r x. after_plain p x; back = λ l r x. plain p x }

pub same_front : (e : Element) (text : List ℕ) (k : ℕ) → ((j : ℕ) → j < k → piece_in e (drop j text) ≡ Plain (drop (j + 1) text)) → SameEnd e text (drop k text)
same_front e text zero h = same_refl e text
same_front e text (suc k) h =
    same_trans (same_front e text k (λ j lt. h j (omega arith))) (subst (λ (n : ℕ). SameEnd e (drop k text) (drop n text)) (add-one k) (same_plain (h k (omega arith))))
