-- The parts of a package are read again as they were.
use Rattle.std.proofs.Common.{◌≡◌, ℕ, ◌+◌, Bool, true, false, cond, ◌||◌, List, [], ◌∷◌, ◌++◌, map, Option, Some, None, Result, Ok, Err, refl, ap, ◌∙◌}
use Rattle.std.specs.List.{AllByRecursion, IsDistinct, enumerate_from, list_any}
use Rattle.std.specs.Option.{option_or}
use Rattle.std.proofs.lemmas.List.Folds.{list_any-append}
use Rattle.std.proofs.lemmas.Str.Ascii.{lowercase-lowercase}
use Rattle.path_name.specs.Given.{◌>>=◌}
use Rattle.path_name.specs.Bytes.{lowered}
use Rattle.path_name.specs.Orders.{bytes_are_equal, byte_equality}
use Rattle.path_name.specs.Paths.{path_of}
use Rattle.json_ordered.specs.JsonTree.{JsonTree, String, items_of, members_of, array_of, object_of}
use Rattle.json_ordered.specs.JsonNames.{value_of}
use Rattle.version_norm.specs.declared.version.Version.{Version}
use Rattle.constraint_set.specs.Constraints.{constraint_of}
use Rattle.manifest_read.specs.declared.fault.FieldFault.{FieldFault}
use Rattle.manifest_read.specs.declared.fault.FieldFault.TheVariants.{BadField, NotOffered}
use Rattle.manifest_read.specs.declared.key.Key.{Key}
use Rattle.manifest_read.specs.declared.types.Role.TheVariants.{Member}
use Rattle.manifest_read.specs.declared.types.Link.{Link}
use Rattle.manifest_read.specs.declared.types.PathText.{PathText}
use Rattle.manifest_read.specs.Keys.{Pairs, key_text}
use Rattle.manifest_read.specs.Pointers.{below, at_item}
use Rattle.manifest_read.specs.Values.{list_of_items, pairs_of_members, text_at, list_at, object_at, if_there, each}
use Rattle.manifest_read.specs.Links.{is_same_name, last_of, kept_behind, link_name_at, constraint_or_fault, constraint_at, link_at, links_in}
use Rattle.manifest_read.specs.Names.{is_link_name}
use Rattle.manifest_read.specs.Autoloads.{path_or_fault, path_at, is_barred, is_offered, path_text_at, path_texts_at, paths_in, texts_in}
use Rattle.manifest_read.specs.WellFormed.{IsLink, HaveDistinctNames, IsPathText}
use Rattle.lock_file.specs.PackageTrees.{filled, link_pair, links_tree, path_tree, paths_tree, texts_tree}
use Rattle.lock_file.specs.Rereading.{IsSmall, IsStarless}

-- ---- steps that may refuse

pub bound : {X Y : Type 0} (r : Result X FieldFault) (x : X) (next : X → Result Y FieldFault) (y : Y) → r ≡ Ok x → next x ≡ Ok y → r >>= next ≡ Ok y
bound r x next y e f = ap (λ s. s >>= next) e ∙ f

pub each_again : {X Y : Type 0} (read : X → Result Y FieldFault) (print : Y → X) (P : Y → Type 0) → ((y : Y) → P y → read (print y) ≡ Ok y) → (ys : List Y) → AllByRecursion P ys → each read (map print ys) ≡ Ok ys
unfolding each
each_again read print P again [] all = refl
each_again read print P again (y ∷ ys) all =
    bound (read (print y)) y (λ z. each read (map print ys) >>= λ zs. Ok (z ∷ zs)) (y ∷ ys) (again y all.0) (bound (each read (map print ys)) ys (λ zs. Ok (y ∷ zs)) (y ∷ ys) (each_again read print P again ys all.1) refl)

-- items by their numbers, which their pointers have
pub each_numbered : {Y : Type 0} (read : List ℕ → JsonTree → Result Y FieldFault) (pointer : List ℕ) (print : Y → JsonTree) (P : Y → Type 0) → ((at : List ℕ) (y : Y) → P y → read at (print y) ≡ Ok y)
    → (k : ℕ) (ys : List Y) → AllByRecursion P ys → each (λ (n : ℕ × JsonTree). read (at_item pointer n.0) n.1) (enumerate_from k (map print ys)) ≡ Ok ys
unfolding each
each_numbered read pointer print P again k [] all = refl
each_numbered read pointer print P again k (y ∷ ys) all =
    bound (read (at_item pointer k) (print y)) y _ (y ∷ ys) (again (at_item pointer k) y all.0)
    (bound (each (λ (n : ℕ × JsonTree). read (at_item pointer n.0) n.1) (enumerate_from (k + 1) (map print ys))) ys (λ zs. Ok (y ∷ zs)) (y ∷ ys) (each_numbered read pointer print P again (k + 1) ys all.1) refl)

pub items_again : (vs : List JsonTree) → list_of_items (items_of vs) ≡ vs
items_again [] = refl
items_again (v ∷ vs) = ap (λ ws. v ∷ ws) (items_again vs)

pairs_again : (ms : Pairs) → pairs_of_members (members_of ms) ≡ ms
pairs_again [] = refl
pairs_again (m ∷ ms) = ap (λ ns. m ∷ ns) (pairs_again ms)

pub list_again : (pointer : List ℕ) (vs : List JsonTree) → list_at pointer (array_of vs) ≡ Ok vs
unfolding list_at
list_again pointer vs = ap Ok (items_again vs)

pub object_again : (pointer : List ℕ) (ms : Pairs) → object_at pointer (object_of ms) ≡ Ok ms
unfolding object_at
object_again pointer ms = ap Ok (pairs_again ms)

pub text_again : (pointer text : List ℕ) → text_at pointer (String text) ≡ Ok text
unfolding text_at
text_again pointer text = refl

pub small_again : (text : List ℕ) → lowered (lowered text) ≡ lowered text
small_again [] = refl
small_again (byte ∷ text) = ap (λ b. b ∷ lowered (lowered text)) (lowercase-lowercase byte) ∙ ap (λ rest. lowered (byte ∷ []) ++ rest) (small_again text)

-- ---- what a key has among others

first_or : (b : Bool) (v : JsonTree) (all some more : Option JsonTree) → all ≡ option_or some more → cond b (Some v) all ≡ option_or (cond b (Some v) some) more
first_or true v all some more e = refl
first_or false v all some more e = e

same_either : (b : Bool) (o : Option JsonTree) → o ≡ cond b o o
same_either true o = refl
same_either false o = refl

pub value_append : (name : List ℕ) (xs ys : Pairs) → value_of (xs ++ ys) name ≡ option_or (value_of xs name) (value_of ys name)
value_append name [] ys = refl
value_append name (x ∷ xs) ys = first_or (bytes_are_equal name x.0) x.1 (value_of (xs ++ ys) name) (value_of xs name) (value_of ys name) (value_append name xs ys)

-- nothing for an empty list
abbrev pub filled_value : {X : Type 0} → (List X → JsonTree) → List X → Option JsonTree
filled_value tree [] = None
filled_value tree (x ∷ xs) = Some (tree (x ∷ xs))

pub filled_of : {X : Type 0} (name : List ℕ) (key : Key) (tree : List X → JsonTree) (xs : List X) → value_of (filled key tree xs) name ≡ cond (bytes_are_equal name (key_text key)) (filled_value tree xs) None
filled_of name key tree [] = same_either (bytes_are_equal name (key_text key)) None
filled_of name key tree (x ∷ xs) = refl

pub or_none : {X : Type 0} (o : Option X) → option_or o None ≡ o
or_none None = refl
or_none (Some x) = refl

-- a list that was left out where it is empty
pub filled_read : {X : Type 0} (tree : List X → JsonTree) (read : JsonTree → Result (List X) FieldFault) (xs : List X) → read (tree xs) ≡ Ok xs → if_there (filled_value tree xs) (Ok []) read ≡ Ok xs
filled_read tree read [] e = refl
filled_read tree read (x ∷ xs) e = e

-- ---- links

abbrev IsApart : List ℕ × JsonTree → List ℕ × JsonTree → Type 0
IsApart pair other = is_same_name pair other ≡ false

abbrev AreApart : Pairs → Type 0
AreApart [] = Unit {0}
AreApart (pair ∷ pairs) = AllByRecursion (IsApart pair) pairs × AreApart pairs

abbrev AreNewBehind : Pairs → Pairs → Type 0
AreNewBehind before pairs = AllByRecursion (λ pair. list_any (is_same_name pair) before ≡ false) pairs

last_itself : (pair : List ℕ × JsonTree) (pairs : Pairs) → AllByRecursion (IsApart pair) pairs → last_of pair pairs ≡ pair
last_itself pair [] all = refl
last_itself pair (next ∷ pairs) all = ap (λ b. last_of (cond b next pair) pairs) all.0 ∙ last_itself pair pairs all.1

neither : (a b : Bool) → a ≡ false → b ≡ false → a || (b || false) ≡ false
neither true b e f = e
neither false b e f = ap (λ t. t || false) f

new_more : (before : Pairs) (pair : List ℕ × JsonTree) (pairs : Pairs) → AreNewBehind before pairs → AllByRecursion (IsApart pair) pairs → AreNewBehind (before ++ pair ∷ []) pairs
new_more before pair [] new all = tt
new_more before pair (next ∷ pairs) new all = (
  list_any-append (is_same_name next) before (pair ∷ []) ∙ neither (list_any (is_same_name next) before) (is_same_name next pair) new.0 (byte_equality.symm (lowered next.0) (lowered pair.0) ∙ all.0),
  new_more before pair pairs new.1 all.1,
)

kept_all : (before pairs : Pairs) → AreNewBehind before pairs → AreApart pairs → kept_behind before pairs ≡ pairs
unfolding kept_behind
kept_all before [] new apart = refl
kept_all before (pair ∷ pairs) new apart =
    ap (λ b. cond b (kept_behind (before ++ pair ∷ []) pairs) (last_of pair pairs ∷ kept_behind (before ++ pair ∷ []) pairs)) new.0
    ∙ ap (λ p. p ∷ kept_behind (before ++ pair ∷ []) pairs) (last_itself pair pairs apart.0)
    ∙ ap (λ ps. pair ∷ ps) (kept_all (before ++ pair ∷ []) pairs (new_more before pair pairs new.1 apart.0) apart.1)

none_behind : (pairs : Pairs) → AreNewBehind [] pairs
none_behind [] = tt
none_behind (pair ∷ pairs) = (refl, none_behind pairs)

apart_links : (link : Link) (links : List Link) → IsSmall link → AllByRecursion IsSmall links → AllByRecursion (λ name. bytes_are_equal link.name name ≡ false) (map (λ (it : Link). it.name) links)
    → AllByRecursion (IsApart (link_pair link)) (map link_pair links)
apart_links link [] small smalls all = tt
apart_links link (next ∷ links) small smalls all =
    (ap (λ n. bytes_are_equal n (lowered next.name)) small ∙ ap (bytes_are_equal link.name) smalls.0 ∙ all.0, apart_links link links small smalls.1 all.1)

apart_all : (links : List Link) → AllByRecursion IsSmall links → HaveDistinctNames links → AreApart (map link_pair links)
unfolding IsDistinct
apart_all [] small distinct = tt
apart_all (link ∷ links) small distinct = (apart_links link links small.0 small.1 distinct.0, apart_all links small.1 distinct.1)

link_again : (own : Version) (at : List ℕ) (link : Link) → IsLink own link × IsSmall link → link_at own at (link_pair link) ≡ Ok link
unfolding link_at link_name_at constraint_at text_at
link_again own at link is =
    bound (link_name_at (below at link.name) link.name) link.name _ link
    (ap (λ n. cond (is_link_name n) (Ok n) (Err (BadField (below at link.name)))) is.1 ∙ ap (λ b. cond b (Ok link.name) (Err (BadField (below at link.name)))) is.0.name)
    (bound (constraint_or_fault (below at link.name) (constraint_of link.text own)) link.wants _ link (ap (constraint_or_fault (below at link.name)) is.0.wants) refl)

pub paired : {X : Type 0} (P Q : X → Type 0) (xs : List X) → AllByRecursion P xs → AllByRecursion Q xs → AllByRecursion (λ x. P x × Q x) xs
paired P Q [] all more = tt
paired P Q (x ∷ xs) all more = ((all.0, more.0), paired P Q xs all.1 more.1)

pub links_again : (own : Version) (pointer : List ℕ) (links : List Link) → AllByRecursion (IsLink own) links → AllByRecursion IsSmall links → HaveDistinctNames links → links_in own pointer (links_tree links) ≡ Ok links
unfolding links_in
links_again own pointer links formed small distinct =
    bound (object_at pointer (links_tree links)) (map link_pair links) _ links (object_again pointer (map link_pair links))
    (ap (each (link_at own pointer)) (kept_all [] (map link_pair links) (none_behind (map link_pair links)) (apart_all links small distinct))
    ∙ each_again (link_at own pointer) link_pair (λ link. IsLink own link × IsSmall link) (link_again own pointer) links (paired (IsLink own) IsSmall links formed small))

-- ---- paths

pub path_again : (starless : Bool) (at : List ℕ) (p : PathText) → IsPathText Member p → (starless ≡ true → IsStarless p) → path_text_at Member starless at (path_tree p) ≡ Ok p
unfolding path_text_at text_at path_at is_offered is_barred
path_again starless at p is star =
    bound (path_or_fault at (path_of p.written)) p.path _ p (ap (path_or_fault at) is.read) (by starless star)
  where
    by : (s : Bool) → (s ≡ true → IsStarless p) → cond (is_offered Member s p) (Ok p) (Err (NotOffered at)) ≡ Ok p
    by true star = ap (λ b. cond (cond b false true) (Ok p) (Err (NotOffered at))) (star refl)
    by false star = refl

pub paths_again : (starless : Bool) (pointer : List ℕ) (paths : List PathText) → AllByRecursion (IsPathText Member) paths → (starless ≡ true → AllByRecursion IsStarless paths)
    → path_texts_at Member starless pointer (map path_tree paths) ≡ Ok paths
unfolding path_texts_at
paths_again true pointer paths formed star = each_numbered (path_text_at Member true) pointer path_tree (λ p. IsPathText Member p × IsStarless p) (λ at p is. path_again true at p is.0 (λ e. is.1)) 0 paths
    (paired (IsPathText Member) IsStarless paths formed (star refl))
paths_again false pointer paths formed star = each_numbered (path_text_at Member false) pointer path_tree (IsPathText Member) (λ at p is. path_again false at p is (λ e. absurd cc)) 0 paths formed

pub listed_again : (starless : Bool) (pointer : List ℕ) (paths : List PathText) → AllByRecursion (IsPathText Member) paths → (starless ≡ true → AllByRecursion IsStarless paths)
    → paths_in Member starless pointer (paths_tree paths) ≡ Ok paths
unfolding paths_in
listed_again starless pointer paths formed star = bound (list_at pointer (paths_tree paths)) (map path_tree paths) _ paths (list_again pointer (map path_tree paths)) (paths_again starless pointer paths formed star)

pub texts_again : (pointer : List ℕ) (texts : List (List ℕ)) → texts_in pointer (texts_tree texts) ≡ Ok texts
unfolding texts_in
texts_again pointer texts =
    bound (list_at pointer (texts_tree texts)) (map String texts) _ texts (list_again pointer (map String texts))
    (each_numbered text_at pointer String (λ text. Unit {0}) (λ at text known. text_again at text) 0 texts (nothing texts))
  where
    nothing : (xs : List (List ℕ)) → AllByRecursion (λ text. Unit {0}) xs
    nothing [] = tt
    nothing (x ∷ xs) = (tt, nothing xs)
