-- Steps that may refuse, one after the other.
use Rattle.std.proofs.Common.{◌≡◌, ℕ, ◌+◌, Bool, true, false, cond, List, [], ◌∷◌, ◌++◌, map, Option, Some, None, Result, Ok, Err, refl, sym, ap, subst, ◌∙◌}
use Rattle.std.specs.Prelude.{IfSome, IfOk}
use Rattle.std.specs.List.{AllByRecursion, enumerate_from}
use Rattle.std.specs.Option.{ok_or, option_to_list}
use Rattle.path_name.specs.Given.{GivesValue, ◌>>=◌}
use Rattle.json_ordered.specs.JsonTree.{JsonTree}
use Rattle.manifest_read.specs.declared.fault.FieldFault.{FieldFault}
use Rattle.manifest_read.specs.declared.fault.FieldFault.TheVariants.{OutOfMemory}
use Rattle.manifest_read.specs.Values.{if_there, each}
use Rattle.manifest_read.specs.Repositories.{each_there}

abbrev pub Answers : {X : Type 0} → Result X FieldFault → X → Type 0
Answers r x = r ≡ Ok x

pub same_value : {X : Type 0} (x y : X) → Answers (Ok x) y → x ≡ y
same_value x y e = cc

pub both : {X Y : Type 0} (r : Result X FieldFault) (next : X → Result Y FieldFault) (y : Y) → r >>= next ≡ Ok y → (x : X) × (r ≡ Ok x) × (next x ≡ Ok y)
both (Ok x) next y e = (x, refl, e)
both (Err fault) next y e = absurd cc

pub passed : {X : Type 0} (b : Bool) (x y : X) (fault : FieldFault) → cond b (Ok x) (Err fault) ≡ Ok y → (b ≡ true) × (x ≡ y)
passed true x y fault e = (refl, cc)
passed false x y fault e = absurd cc

pub barred : {X : Type 0} (b : Bool) (x y : X) (fault : FieldFault) → cond b (Err fault) (Ok x) ≡ Ok y → (b ≡ false) × (x ≡ y)
barred true x y fault e = absurd cc
barred false x y fault e = (refl, cc)

-- a value of a form
pub given : {X : Type 0} (o : Option X) (fault : FieldFault) (x : X) (P : X → Type 0) → IfSome o P → ok_or o fault ≡ Ok x → P x
given None fault x P h e = absurd cc
given (Some y) fault x P h e = subst P (same_value y x e) h

-- what is known of each value of a key is known of the one that is there
pub there_of : {X : Type 0} (Q : JsonTree → Type 0) (found : Option JsonTree) (missing : Result X FieldFault) (read : JsonTree → Result X FieldFault) (P : X → Type 0) (x : X) → IfSome found Q
    → ((y : X) → missing ≡ Ok y → P y) → ((v : JsonTree) (y : X) → Q v → read v ≡ Ok y → P y) → if_there found missing read ≡ Ok x → P x
there_of Q None missing read P x known otherwise from e = otherwise x e
there_of Q (Some v) missing read P x known otherwise from e = from v x known e

pub there : {X : Type 0} (found : Option JsonTree) (missing : Result X FieldFault) (read : JsonTree → Result X FieldFault) (P : X → Type 0) (x : X)
    → ((y : X) → missing ≡ Ok y → P y) → ((v : JsonTree) (y : X) → read v ≡ Ok y → P y) → if_there found missing read ≡ Ok x → P x
there None missing read P x otherwise from e = otherwise x e
there (Some v) missing read P x otherwise from e = from v x e

pub none_missing : {Y : Type 0} (P : Y → Type 0) (ys : List Y) → Answers (Ok []) ys → AllByRecursion P ys
none_missing P [] e = tt
none_missing P (y ∷ ys) e = absurd cc

-- ---- each of a list

pub all_read_of : {X Y : Type 0} (Q : X → Type 0) (read : X → Result Y FieldFault) (P : Y → Type 0) → ((x : X) (y : Y) → Q x → read x ≡ Ok y → P y) → (xs : List X) (ys : List Y) → AllByRecursion Q xs
    → each read xs ≡ Ok ys → AllByRecursion P ys
unfolding each
all_read_of Q read P h [] ys known e = none_missing P ys e
all_read_of Q read P h (x ∷ xs) ys known e =
    let first = both (read x) _ ys e in
    let more = both (each read xs) _ ys first.2 in
    let same : first.0 ∷ more.0 ≡ ys = cc in
    subst (λ zs. AllByRecursion P zs) same (h x first.0 known.0 first.1, all_read_of Q read P h xs more.0 known.1 more.1)

pub all_read : {X Y : Type 0} (read : X → Result Y FieldFault) (P : Y → Type 0) → ((x : X) (y : Y) → read x ≡ Ok y → P y) → (xs : List X) (ys : List Y) → each read xs ≡ Ok ys → AllByRecursion P ys
unfolding each
all_read read P h [] ys e = none_missing P ys e
all_read read P h (x ∷ xs) ys e =
    let first = both (read x) _ ys e in
    let more = both (each read xs) _ ys first.2 in
    let same : first.0 ∷ more.0 ≡ ys = cc in
    subst (λ zs. AllByRecursion P zs) same (h x first.0 first.1, all_read read P h xs more.0 more.1)

-- what is taken over from each
pub each_map : {X Y Z : Type 0} (read : X → Result Y FieldFault) (f : Y → Z) (g : X → Z) → ((x : X) (y : Y) → read x ≡ Ok y → f y ≡ g x) → (xs : List X) (ys : List Y) → each read xs ≡ Ok ys → map f ys ≡ map g xs
unfolding each
each_map read f g h [] ys e = ap (map f) (sym (same_value [] ys e))
each_map read f g h (x ∷ xs) ys e =
    let first = both (read x) _ ys e in
    let more = both (each read xs) _ ys first.2 in
    let same : first.0 ∷ more.0 ≡ ys = cc in
    ap (map f) (sym same) ∙ ap (λ z. z ∷ map f more.0) (h x first.0 first.1) ∙ ap (λ zs. g x ∷ zs) (each_map read f g h xs more.0 more.1)

some_more : {Y : Type 0} (P : Y → Type 0) (y : Option Y) (ys : List Y) → IfSome y P → AllByRecursion P ys → AllByRecursion P (option_to_list y ++ ys)
some_more P None ys h all = all
some_more P (Some y) ys h all = (h, all)

pub all_there_of : {X Y : Type 0} (Q : X → Type 0) (read : X → Result (Option Y) FieldFault) (P : Y → Type 0) → ((x : X) (y : Option Y) → Q x → read x ≡ Ok y → IfSome y P) → (xs : List X) (ys : List Y)
    → AllByRecursion Q xs → each_there read xs ≡ Ok ys → AllByRecursion P ys
unfolding each_there
all_there_of Q read P h [] ys known e = none_missing P ys e
all_there_of Q read P h (x ∷ xs) ys known e =
    let first = both (read x) _ ys e in
    let more = both (each_there read xs) _ ys first.2 in
    let same : option_to_list first.0 ++ more.0 ≡ ys = cc in
    subst (λ zs. AllByRecursion P zs) same (some_more P first.0 more.0 (h x first.0 known.0 first.1) (all_there_of Q read P h xs more.0 known.1 more.1))

pub all_there : {X Y : Type 0} (read : X → Result (Option Y) FieldFault) (P : Y → Type 0) → ((x : X) (y : Option Y) → read x ≡ Ok y → IfSome y P) → (xs : List X) (ys : List Y) → each_there read xs ≡ Ok ys
    → AllByRecursion P ys
unfolding each_there
all_there read P h [] ys e = none_missing P ys e
all_there read P h (x ∷ xs) ys e =
    let first = both (read x) _ ys e in
    let more = both (each_there read xs) _ ys first.2 in
    let same : option_to_list first.0 ++ more.0 ≡ ys = cc in
    subst (λ zs. AllByRecursion P zs) same (some_more P first.0 more.0 (h x first.0 first.1) (all_there read P h xs more.0 more.1))

pub numbered : {X : Type 0} (Q : X → Type 0) (n : ℕ) (xs : List X) → AllByRecursion Q xs → AllByRecursion (λ (p : ℕ × X). Q p.1) (enumerate_from n xs)
numbered Q n [] all = tt
numbered Q n (x ∷ xs) all = (all.0, numbered Q (n + 1) xs all.1)

-- what holds of each value that is wanted holds of the one that is given
pub if_given : {X : Type 0} (P : X → Type 0) (wanted result : Result X FieldFault) → GivesValue OutOfMemory wanted result → ((x : X) → wanted ≡ Ok x → P x) → IfOk result P
if_given P wanted (Ok x) gives all = all x gives
if_given P wanted (Err fault) gives all = tt
