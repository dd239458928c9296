-- What the faults of the reading mean in the words of the grammar.
use Rattle.std.proofs.Common.{◌≡◌, ℕ, zero, suc, ◌+◌, ◌-◌, ◌<◌, ◌≤◌, Bool, true, false, cond, ◌&&◌, ◌⊎◌, inl, inr, List, [], ◌∷◌, ◌++◌, length, get_or, take, Option, Some, None, Result, Ok, Err, refl, sym, ap, subst, ◌∙◌, append_assoc, arith, length-append}
use Rattle.std.specs.List.{list_all}
use Rattle.std.specs.Str.{IsUtf8, is_utf8, IsValidUpTo}
use Rattle.std.specs.Str.Lossy.{utf8_valid_len, valid_len_up_to}
use Rattle.std.proofs.lemmas.Bool.{ltb-true, cases_lt}
use Rattle.std.proofs.lemmas.List.{get_or_at}
use Rattle.std.proofs.lemmas.Str.{IsUtf8-append, IsUtf8-from_ascii, IsUtf8-from_is_utf8, is_utf8-from_IsUtf8, IsUtf8-take, IsCharBoundary-before_ascii}
use Rattle.std.proofs.Math.Seq.{take-append_seam, take-append-add}
use Rattle.json_ordered.specs.declared.fault.JsonFault.{JsonFault}
use Rattle.json_ordered.specs.declared.fault.JsonFault.TheVariants.{NotUtf8}
use Rattle.json_ordered.specs.JsonTree.{JsonTree}
use Rattle.json_ordered.specs.Json.{IsJsonOf, IsJson, most_levels}
use Rattle.json_ordered.specs.JsonReading.{State, Next, Go, Wrong, Deep, step, whole_value, Stop, Syntax_with, Too_deep_with, ended, goes_on, read_from, start}
use Rattle.json_ordered.specs.JsonFaults.{placed, json_of, fault_of, json_fault, Begins, IsSyntaxFault, IsDepthFault, Means}
use Rattle.json_ordered.proofs.Residual.{is_ascii}
use Rattle.json_ordered.proofs.Accepted.{is_json_of}
use Rattle.json_ordered.proofs.Complete.{json_read}
use Rattle.json_ordered.proofs.Levels.{up, Leads, leads_up, leads_read, leads_on, step_up_wrong, step_up_deep, ok_up}
use Rattle.json_ordered.proofs.Completions.{completes}
use Rattle.json_ordered.proofs.Depth.{deep_byte}
use Rattle.json_ordered.proofs.Boundary.{Halts, front_utf8, leads_fine}

-- ---- where the reading stops

pub record Cut (text : List ℕ) (s : State) (left : ℕ) : Type 0 where
  pub front : List ℕ
  pub rest : List ℕ
  pub state : State
  pub parts : text ≡ front ++ rest
  pub left_is : length rest ≡ left
  pub leads : Leads s front state
  pub halts : Halts state rest

pub record DeepCut (text : List ℕ) (s : State) (left : ℕ) : Type 0 where
  pub front : List ℕ
  pub byte : ℕ
  pub rest : List ℕ
  pub state : State
  pub parts : text ≡ front ++ byte ∷ rest
  pub left_is : suc (length rest) ≡ left
  pub leads : Leads s front state
  pub deep : step state byte ≡ Deep

left_same : {a b : ℕ} → Syntax_with a ≡ Syntax_with b → a ≡ b
left_same e = cc

deep_same : {a b : ℕ} → Too_deep_with a ≡ Too_deep_with b → a ≡ b
deep_same e = cc

abbrev stopped : Stop → Result JsonTree Stop
stopped a = Err a

stop_same : {a b : Stop} → stopped a ≡ stopped b → a ≡ b
stop_same e = cc

ended_cut : (o : Option JsonTree) (left : ℕ) → ended o ≡ Err (Syntax_with left) → (o ≡ None) × (0 ≡ left)
ended_cut (Some v) left e = absurd cc
ended_cut None left e = (refl, left_same (stop_same e))

ended_deep : (o : Option JsonTree) (left : ℕ) → ended o ≡ Err (Too_deep_with left) → ⊥
ended_deep (Some v) left e = cc
ended_deep None left e = unlike (stop_same e)
  where
    unlike : {a b : ℕ} → Syntax_with a ≡ Too_deep_with b → ⊥
    unlike p = cc

cut_next : (n : Next) (s : State) (byte : ℕ) (rest : List ℕ) (left : ℕ) → step s byte ≡ n → ((t : State) → read_from t rest ≡ Err (Syntax_with left) → Cut rest t left)
    → goes_on n (suc (length rest)) (λ t. read_from t rest) ≡ Err (Syntax_with left) → Cut (byte ∷ rest) s left
cut_next (Go t) s byte rest left e ih h =
    let c = ih t h in
    record { front = byte ∷ c.front; rest = c.rest; state = c.state; parts = ap (λ (x : List ℕ). byte ∷ x) c.parts; left_is = c.left_is; leads = (t, e, c.leads); halts = c.halts }
cut_next Wrong s byte rest left e ih h = record { front = []; rest = byte ∷ rest; state = s; parts = refl; left_is = left_same (stop_same h); leads = refl; halts = e }
cut_next Deep s byte rest left e ih h = absurd (unlike (stop_same h))
  where
    unlike : {a b : ℕ} → Too_deep_with a ≡ Syntax_with b → ⊥
    unlike p = cc

pub cut : (text : List ℕ) (s : State) (left : ℕ) → read_from s text ≡ Err (Syntax_with left) → Cut text s left
unfolding read_from
cut [] s left e = let h = ended_cut (whole_value s.stack s.place) left e in record { front = []; rest = []; state = s; parts = refl; left_is = h.1; leads = refl; halts = h.0 }
cut (byte ∷ rest) s left e = cut_next (step s byte) s byte rest left refl (λ t h. cut rest t left h) e

deep_next : (n : Next) (s : State) (byte : ℕ) (rest : List ℕ) (left : ℕ) → step s byte ≡ n → ((t : State) → read_from t rest ≡ Err (Too_deep_with left) → DeepCut rest t left)
    → goes_on n (suc (length rest)) (λ t. read_from t rest) ≡ Err (Too_deep_with left) → DeepCut (byte ∷ rest) s left
deep_next (Go t) s byte rest left e ih h =
    let c = ih t h in
    record { front = byte ∷ c.front; byte = c.byte; rest = c.rest; state = c.state; parts = ap (λ (x : List ℕ). byte ∷ x) c.parts; left_is = c.left_is; leads = (t, e, c.leads); deep = c.deep }
deep_next Wrong s byte rest left e ih h = absurd (unlike (stop_same h))
  where
    unlike : {a b : ℕ} → Syntax_with a ≡ Too_deep_with b → ⊥
    unlike p = cc
deep_next Deep s byte rest left e ih h = record { front = []; byte = byte; rest = rest; state = s; parts = refl; left_is = deep_same (stop_same h); leads = refl; deep = e }

pub deep_cut : (text : List ℕ) (s : State) (left : ℕ) → read_from s text ≡ Err (Too_deep_with left) → DeepCut text s left
unfolding read_from
deep_cut [] s left e = absurd (ended_deep (whole_value s.stack s.place) left e)
deep_cut (byte ∷ rest) s left e = deep_next (step s byte) s byte rest left refl (λ t h. deep_cut rest t left h) e

-- ---- a front that is led to begins a text

pub ascii_small : (bs : List ℕ) (i : ℕ) → list_all is_ascii bs ≡ true → get_or bs i 0 < 128
ascii_small [] i h = omega arith
ascii_small (b ∷ bs) zero h = ltb-true b 128 (first (is_ascii b) (list_all is_ascii bs) h)
  where
    first : (x y : Bool) → x && y ≡ true → x ≡ true
    first true y e = refl
    first false y e = cc
ascii_small (b ∷ bs) (suc i) h = ascii_small bs i (second (is_ascii b) (list_all is_ascii bs) h)
  where
    second : (x y : Bool) → x && y ≡ true → y ≡ true
    second true y e = e
    second false y e = absurd cc

begins : (levels : ℕ) (front : List ℕ) (t : State) → Leads (start levels) front t → IsUtf8 front → Begins levels front
begins levels front t l utf8 =
    let c = completes t (leads_fine front (start levels) t tt l) in
    (c.more, c.tree, is_json_of c.tree levels (front ++ c.more) (IsUtf8-append front c.more utf8 (IsUtf8-from_ascii c.more (λ i. ascii_small c.more i c.ascii))) (leads_read front (start levels) t c.more l ∙ c.read))

-- ---- a front that isn't led to begins none, with any number of levels

-- n more levels
abbrev raised : ℕ → State → State
raised zero s = s
raised (suc n) s = up (raised n s)

raised_start : (n levels : ℕ) → raised n (start levels) ≡ start (n + levels)
raised_start zero levels = ap start (omega arith)
raised_start (suc n) levels = ap up (raised_start n levels) ∙ ap start (omega arith)

leads_raised : (n : ℕ) (front : List ℕ) (s t : State) → Leads s front t → Leads (raised n s) front (raised n t)
leads_raised zero front s t l = l
leads_raised (suc n) front s t l = leads_up front (raised n s) (raised n t) (leads_raised n front s t l)

halts_raised : (n : ℕ) (t : State) (rest : List ℕ) → Halts t rest → Halts (raised n t) rest
halts_raised zero t rest h = h
halts_raised (suc n) t [] h = halts_raised n t [] h
halts_raised (suc n) t (byte ∷ rest) h = step_up_wrong (raised n t) byte (halts_raised n t (byte ∷ rest) h)

ok_raised : (n : ℕ) (tree : JsonTree) (text : List ℕ) (s : State) → read_from s text ≡ Ok tree → read_from (raised n s) text ≡ Ok tree
ok_raised zero tree text s e = e
ok_raised (suc n) tree text s e = ok_up tree text (raised n s) (ok_raised n tree text s e)

-- the same first byte follows, or nothing
abbrev SameFirst : List ℕ → List ℕ → Type 0
SameFirst [] [] = Unit {0}
SameFirst [] (b ∷ other) = ⊥
SameFirst (b ∷ rest) [] = ⊥
SameFirst (b ∷ rest) (c ∷ other) = b ≡ c

no_next : (n : Next) (left : ℕ) (rest : List ℕ) (tree : JsonTree) → n ≡ Wrong → goes_on n left (λ t. read_from t rest) ≡ Ok tree → ⊥
no_next (Go t) left rest tree e h = cc
no_next Wrong left rest tree e h = cc
no_next Deep left rest tree e h = cc

no_end : (o : Option JsonTree) (tree : JsonTree) → o ≡ None → ended o ≡ Ok tree → ⊥
no_end (Some v) tree e h = cc
no_end None tree e h = cc

halted : (t : State) (rest other : List ℕ) (tree : JsonTree) → Halts t rest → SameFirst rest other → read_from t other ≡ Ok tree → ⊥
unfolding read_from
halted t [] [] tree h same e = no_end (whole_value t.stack t.place) tree h e
halted t [] (b ∷ other) tree h same e = same
halted t (b ∷ rest) [] tree h same e = same
halted t (b ∷ rest) (c ∷ other) tree h same e = no_next (step t c) (suc (length other)) other tree (subst (λ (x : ℕ). step t x ≡ Wrong) same h) e

no_json_above : (n levels : ℕ) (front rest other : List ℕ) (t : State) (tree : JsonTree) → Leads (start levels) front t → Halts t rest → SameFirst rest other → read_from (start (n + levels)) (front ++ other) ≡ Ok tree → ⊥
no_json_above n levels front rest other t tree l h same e =
    halted (raised n t) rest other tree (halts_raised n t rest h) same
    (sym (leads_read front (raised n (start levels)) (raised n t) other (leads_raised n front (start levels) t l)) ∙ ap (λ (s : State). read_from s (front ++ other)) (raised_start n levels) ∙ e)

no_json : (levels wanted : ℕ) (front rest other : List ℕ) (t : State) (tree : JsonTree) → Leads (start levels) front t → Halts t rest → SameFirst rest other → IsJsonOf wanted (front ++ other) tree → ⊥
no_json levels wanted front rest other t tree l h same json =
    let e = json_read wanted (front ++ other) tree json in
    elim (cases_lt wanted levels) [
      | inl lt ↦ let more : (levels - wanted) + wanted ≡ levels = omega arith in
          no_json_above 0 levels front rest other t tree l h same
          (ap (λ (n : ℕ). read_from (start n) (front ++ other)) (omega arith ∙ sym more) ∙ (ap (λ (s : State). read_from s (front ++ other)) (sym (raised_start (levels - wanted) wanted)) ∙ ok_raised (levels - wanted) tree (front ++ other) (start wanted) e))
      | inr le ↦ let more : (wanted - levels) + levels ≡ wanted = omega arith in
          no_json_above (wanted - levels) levels front rest other t tree l h same (ap (λ (n : ℕ). read_from (start n) (front ++ other)) more ∙ e)
    ]

same_first : (rest : List ℕ) → SameFirst rest rest
same_first [] = tt
same_first (b ∷ rest) = refl

-- ---- Syntax

syntax_longest : (front rest : List ℕ) (t : State) → Leads (start most_levels) front t → Halts t rest → (levels n : ℕ) → length front < n → n ≤ length (front ++ rest) → Begins levels (take n (front ++ rest)) → ⊥
syntax_longest front [] t l h levels n lt le b = absurd (omega (arith, length-append front []))
syntax_longest front (byte ∷ rest) t l h levels n lt le (more, tree, json) =
    let k = n - (length front + 1) in
    let n-is : n ≡ length front + suc k = omega arith in
    let cut_at : take n (front ++ byte ∷ rest) ≡ front ++ byte ∷ take k rest = ap (λ (m : ℕ). take m (front ++ byte ∷ rest)) n-is ∙ take-append-add front (byte ∷ rest) (suc k) in
    let whole : take n (front ++ byte ∷ rest) ++ more ≡ front ++ byte ∷ (take k rest ++ more) = ap (λ (x : List ℕ). x ++ more) cut_at ∙ append_assoc front (byte ∷ take k rest) more in
    no_json most_levels levels front (byte ∷ rest) (byte ∷ (take k rest ++ more)) t tree l h refl (subst (λ (x : List ℕ). IsJsonOf levels x tree) whole json)

syntax_at : (front rest : List ℕ) (t : State) → IsUtf8 (front ++ rest) → Leads (start most_levels) front t → Halts t rest → IsSyntaxFault (front ++ rest) (length front)
syntax_at front rest t utf8 l h = record {
  utf8 = utf8;
  within = omega (arith, length-append front rest);
  begins = subst (Begins most_levels) (sym (take-append_seam front rest)) (begins most_levels front t l (front_utf8 front rest (start most_levels) t tt l utf8 h));
  longest = syntax_longest front rest t l h;
  no_value = λ levels tree json. no_json most_levels levels front rest rest t tree l h (same_first rest) json;
}

syntax_means : (text : List ℕ) (left : ℕ) → IsUtf8 text → read_from (start most_levels) text ≡ Err (Syntax_with left) → IsSyntaxFault text (length text - left)
syntax_means text left utf8 e =
    let c = cut text (start most_levels) left e in
    let len : length text ≡ length c.front + length c.rest = ap length c.parts ∙ length-append c.front c.rest in
    let at : length c.front ≡ length text - left = omega (arith, c.left_is) in
    subst (λ (n : ℕ). IsSyntaxFault text n) at (subst (λ (x : List ℕ). IsSyntaxFault x (length c.front)) (sym c.parts) (syntax_at c.front c.rest c.state (subst IsUtf8 c.parts utf8) c.leads c.halts))

-- ---- TooDeep

deep_ends : (n : Next) (left : ℕ) (rest : List ℕ) (tree : JsonTree) → n ≡ Deep → goes_on n left (λ t. read_from t rest) ≡ Ok tree → ⊥
deep_ends (Go t) left rest tree e h = cc
deep_ends Wrong left rest tree e h = cc
deep_ends Deep left rest tree e h = cc

deep_no_json : (front : List ℕ) (byte : ℕ) (other : List ℕ) (t : State) (tree : JsonTree) → Leads (start most_levels) front t → step t byte ≡ Deep → IsJson (front ++ byte ∷ other) tree → ⊥
unfolding read_from
deep_no_json front byte other t tree l d json =
    deep_ends (step t byte) (suc (length other)) other tree d (sym (leads_read front (start most_levels) t (byte ∷ other) l) ∙ json_read most_levels (front ++ byte ∷ other) tree json)

deep_longest : (front : List ℕ) (byte : ℕ) (rest : List ℕ) (t : State) → Leads (start most_levels) front t → step t byte ≡ Deep → (n : ℕ) → length front < n → n ≤ length (front ++ byte ∷ rest) → Begins most_levels (take n (front ++ byte ∷ rest)) → ⊥
deep_longest front byte rest t l d n lt le (more, tree, json) =
    let k = n - (length front + 1) in
    let n-is : n ≡ length front + suc k = omega arith in
    let cut_at : take n (front ++ byte ∷ rest) ≡ front ++ byte ∷ take k rest = ap (λ (m : ℕ). take m (front ++ byte ∷ rest)) n-is ∙ take-append-add front (byte ∷ rest) (suc k) in
    let whole : take n (front ++ byte ∷ rest) ++ more ≡ front ++ byte ∷ (take k rest ++ more) = ap (λ (x : List ℕ). x ++ more) cut_at ∙ append_assoc front (byte ∷ take k rest) more in
    deep_no_json front byte (take k rest ++ more) t tree l d (subst (λ (x : List ℕ). IsJson x tree) whole json)

bracket_small : (byte : ℕ) → (byte ≡ 91) ⊎ (byte ≡ 123) → byte < 128
bracket_small byte (inl e) = omega arith
bracket_small byte (inr e) = omega arith

one_ascii : (byte : ℕ) → byte < 128 → IsUtf8 (byte ∷ [])
one_ascii byte h = IsUtf8-from_ascii (byte ∷ []) small
  where
    small : (i : ℕ) → get_or (byte ∷ []) i 0 < 128
    small zero = h
    small (suc i) = omega arith

deep_at : (front : List ℕ) (byte : ℕ) (rest : List ℕ) (t : State) → IsUtf8 (front ++ byte ∷ rest) → Leads (start most_levels) front t → step t byte ≡ Deep → IsDepthFault (front ++ byte ∷ rest) (length front)
deep_at front byte rest t utf8 l d =
    let text = front ++ byte ∷ rest in
    let bracket = deep_byte t byte d in
    let small = bracket_small byte bracket in
    let here : get_or text (length front) 0 ≡ byte = get_or_at front byte rest 0 (length front) refl in
    let len : length text ≡ length front + suc (length rest) = length-append front (byte ∷ rest) in
    let front_is : IsUtf8 front = subst IsUtf8 (take-append_seam front (byte ∷ rest)) (IsUtf8-take text (length front) utf8 (IsCharBoundary-before_ascii text (length front) (omega arith) (subst (λ (x : ℕ). x < 128) (sym here) small))) in
    let opened = step_up_deep t byte d in
    let next : suc (length front) ≡ length front + 1 = omega arith in
    let one_more : take (suc (length front)) text ≡ front ++ byte ∷ [] = ap (λ (n : ℕ). take n text) next ∙ take-append-add front (byte ∷ rest) 1 in
    record {
      utf8 = utf8;
      within = omega arith;
      bracket = subst (λ (x : ℕ). (x ≡ 91) ⊎ (x ≡ 123)) (sym here) bracket;
      begins = subst (Begins most_levels) (sym (take-append_seam front (byte ∷ rest))) (begins most_levels front t l front_is);
      opens = subst (Begins (suc most_levels)) (sym one_more) (begins (suc most_levels) (front ++ byte ∷ []) opened.0 (leads_on front byte (start (suc most_levels)) (up t) opened.0 (leads_up front (start most_levels) t l) opened.1) (IsUtf8-append front (byte ∷ []) front_is (one_ascii byte small)));
      longest = deep_longest front byte rest t l d;
      no_value = λ tree json. deep_no_json front byte rest t tree l d json;
    }

deep_means : (text : List ℕ) (left : ℕ) → IsUtf8 text → read_from (start most_levels) text ≡ Err (Too_deep_with left) → IsDepthFault text (length text - left)
deep_means text left utf8 e =
    let c = deep_cut text (start most_levels) left e in
    let len : length text ≡ length c.front + suc (length c.rest) = ap length c.parts ∙ length-append c.front (c.byte ∷ c.rest) in
    let at : length c.front ≡ length text - left = omega (arith, c.left_is) in
    subst (λ (n : ℕ). IsDepthFault text n) at (subst (λ (x : List ℕ). IsDepthFault x (length c.front)) (sym c.parts) (deep_at c.front c.byte c.rest c.state (subst IsUtf8 c.parts utf8) c.leads c.deep))

-- ---- NotUtf8

record Longest (bs : List ℕ) (n len : ℕ) : Type 0 where
  within : len ≤ n
  front : IsUtf8 (take len bs)
  longest : (m : ℕ) → len < m → m ≤ n → IsUtf8 (take m bs) → ⊥

nil_utf8 : IsUtf8 []
nil_utf8 = ([], (refl, refl))

longest_by : (bs : List ℕ) (n : ℕ) (b : Bool) → is_utf8 (take (suc n) bs) ≡ b → Longest bs n (valid_len_up_to bs n) → Longest bs (suc n) (cond b (suc n) (valid_len_up_to bs n))
longest_by bs n true e h = record { within = omega arith; front = IsUtf8-from_is_utf8 (take (suc n) bs) e; longest = λ m lt le u. absurd (omega arith) }
longest_by bs n false e h = record {
  within = omega (arith, h.within);
  front = h.front;
  longest = λ m lt le u. elim (cases_lt n m) [
    | inl gt ↦ let same : m ≡ suc n = omega arith in unlike (sym (is_utf8-from_IsUtf8 (take (suc n) bs) (subst (λ (k : ℕ). IsUtf8 (take k bs)) same u)) ∙ e)
    | inr ge ↦ h.longest m lt ge u
  ];
}
  where
    unlike : true ≡ false → ⊥
    unlike p = cc

longest : (bs : List ℕ) (n : ℕ) → Longest bs n (valid_len_up_to bs n)
longest bs zero = record { within = omega arith; front = nil_utf8; longest = λ m lt le u. absurd (omega arith) }
longest bs (suc n) = longest_by bs n (is_utf8 (take (suc n) bs)) refl (longest bs n)

take_all : (n : ℕ) (bs : List ℕ) → length bs ≤ n → take n bs ≡ bs
take_all zero [] h = refl
take_all (suc n) [] h = refl
take_all zero (b ∷ bs) h = absurd (omega arith)
take_all (suc n) (b ∷ bs) h = ap (λ (x : List ℕ). b ∷ x) (take_all n bs (omega arith))

valid_up_to : (bs : List ℕ) → (IsUtf8 bs → ⊥) → IsValidUpTo bs (utf8_valid_len bs)
unfolding utf8_valid_len
valid_up_to bs none =
    let h = longest bs (length bs) in
    record {
      short = elim (cases_lt (utf8_valid_len bs) (length bs)) [ inl lt ↦ lt | inr le ↦ absurd (none (subst IsUtf8 (take_all (utf8_valid_len bs) bs le) h.front)) ];
      front = h.front;
      longest = λ m lt u. elim (cases_lt (length bs) m) [ inl gt ↦ none (subst IsUtf8 (take_all m bs (omega arith)) u) | inr le ↦ h.longest m lt le u ];
    }

-- ---- the fault of a text

fault_same : {a b : JsonFault} → Some a ≡ Some b → a ≡ b
fault_same e = cc

placed_means : (text : List ℕ) (r : Result JsonTree Stop) (fault : JsonFault) → IsUtf8 text → read_from (start most_levels) text ≡ r → fault_of (placed (length text) r) ≡ Some fault → Means text fault
placed_means text (Ok tree) fault utf8 e h = absurd cc
placed_means text (Err (Syntax_with left)) fault utf8 e h = subst (Means text) (fault_same h) (syntax_means text left utf8 e)
placed_means text (Err (Too_deep_with left)) fault utf8 e h = subst (Means text) (fault_same h) (deep_means text left utf8 e)

not_true : {b : Bool} → b ≡ false → b ≡ true → ⊥
not_true p q = cc

means_by : (text : List ℕ) (b : Bool) (fault : JsonFault) → is_utf8 text ≡ b → fault_of (cond b (placed (length text) (read_from (start most_levels) text)) (Err (NotUtf8 (utf8_valid_len text)))) ≡ Some fault → Means text fault
means_by text true fault e h = placed_means text (read_from (start most_levels) text) fault (IsUtf8-from_is_utf8 text e) refl h
means_by text false fault e h = subst (Means text) (fault_same h) (valid_up_to text (λ u. not_true e (is_utf8-from_IsUtf8 text u)))

-- what a fault says of the text
pub fault_means : (text : List ℕ) (fault : JsonFault) → json_fault text ≡ Some fault → Means text fault
unfolding json_of
fault_means text fault h = means_by text (is_utf8 text) fault refl h

-- ---- the value of a text

abbrev unplaced : Result JsonTree JsonFault → Result JsonTree Stop
unplaced (Ok tree) = Ok tree
unplaced (Err fault) = Err (Syntax_with 0)

placed_ok : (n : ℕ) (r : Result JsonTree Stop) (tree : JsonTree) → placed n r ≡ Ok tree → r ≡ Ok tree
placed_ok n (Ok t) tree e = ap (λ (r : Result JsonTree JsonFault). unplaced r) e
placed_ok n (Err (Syntax_with left)) tree e = absurd cc
placed_ok n (Err (Too_deep_with left)) tree e = absurd cc

value_by : (text : List ℕ) (b : Bool) (tree : JsonTree) → is_utf8 text ≡ b → cond b (placed (length text) (read_from (start most_levels) text)) (Err (NotUtf8 (utf8_valid_len text))) ≡ Ok tree → IsJson text tree
value_by text true tree e h = is_json_of tree most_levels text (IsUtf8-from_is_utf8 text e) (placed_ok (length text) (read_from (start most_levels) text) tree h)
value_by text false tree e h = absurd cc

pub value_is_json : (text : List ℕ) (tree : JsonTree) → json_of text ≡ Ok tree → IsJson text tree
unfolding json_of
value_is_json text tree h = value_by text (is_utf8 text) tree refl h

pub json_is_value : (text : List ℕ) (tree : JsonTree) → IsJson text tree → json_of text ≡ Ok tree
unfolding json_of
json_is_value text tree json = rw (is_utf8-from_IsUtf8 text json.utf8) (ap (placed (length text)) (json_read most_levels text tree json))

-- a text has one value
pub one_value : (levels more : ℕ) (text : List ℕ) (a b : JsonTree) → IsJsonOf levels text a → IsJsonOf more text b → a ≡ b
one_value levels more text a b p q =
    let e = json_read levels text a p in
    let f = json_read more text b q in
    elim (cases_lt levels more) [
      | inl lt ↦ tree_is (sym (at_more a levels more (omega arith) e) ∙ f)
      | inr le ↦ tree_is (sym e ∙ at_more b more levels le f)
    ]
  where
    tree_is : {x y : JsonTree} → ended (Some x) ≡ ended (Some y) → x ≡ y
    tree_is h = cc

    at_more : (tree : JsonTree) (low high : ℕ) → low ≤ high → read_from (start low) text ≡ Ok tree → read_from (start high) text ≡ Ok tree
    at_more tree low high le e =
        let n-is : (high - low) + low ≡ high = omega arith in
        ap (λ (n : ℕ). read_from (start n) text) (sym n-is) ∙ (ap (λ (s : State). read_from s text) (sym (raised_start (high - low) low)) ∙ ok_raised (high - low) tree text (start low) e)
