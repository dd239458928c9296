-- The reading of tokens, step by step.
use Rattle.std.proofs.Common.{◌≡◌, ℕ, Bool, false, List, [], ◌∷◌, ◌++◌, Result, Ok, Err, refl, sym, ap, ◌∙◌}
use Rattle.std.specs.Prelude.{◌≢◌, codes}
use Rattle.std.specs.Str.{is_utf8, chars}
use Rattle.path_name.specs.declared.fault.PathFault.{PathFault}
use Rattle.path_name.specs.declared.fault.PathFault.TheVariants as faults
use Rattle.path_name.specs.Given.{◌>>=◌}
use Rattle.path_name.specs.Paths.{followed}
use Rattle.table_scan.specs.declared.mark.Mark.TheVariants as marks
use Rattle.table_scan.specs.declared.stop.Stop.{Stop}
use Rattle.table_scan.specs.declared.stop.Stop.TheVariants.{Bad, OutOfMemory}
use Rattle.table_scan.specs.TableTokens.{Token, Marked, Placed, left_of}
use Rattle.table_scan.specs.TableGrammar.{vendor_name}
use Rattle.table_scan.specs.TableReading.{Outcome, Next, Done, Wrong, goes_on, front_from, is_wanted, PathPlace, At_root, At_dot, At_text, path_next, FoldersPlace, At_array, At_open, At_folder, In_folder, After_folder, inside_folders, folders_next}
use Rattle.table_scan.specs.TableSteps.{Reads, Fails, StopsAt, behind_wanted, token_at, quoted_at, root_at, root_token, Behind, More, Last, separator_at, separator_token, key_at}

pub reads_as : {X Y : Type 0} (view : X → Y) (wanted other : Result Y ℕ) (result : Result X Stop) → wanted ≡ other → Reads view other result → Reads view wanted result
reads_as view wanted other (Ok x) e h = e ∙ h
reads_as view wanted other (Err (Bad left)) e h = e ∙ h
reads_as view wanted other (Err OutOfMemory) e h = tt

pub vendor_followed : (project : List (List ℕ)) → followed project (codes "vendor") ≡ Ok (project ++ vendor_name ∷ [])
unfolding followed vendor_name is_utf8 chars lib.Utf8.encode
vendor_followed project = refl

pub vendor_clean : (project : List (List ℕ)) (fault : PathFault) (at : ℕ) → fault ≡ faults.BadSegment at → (fault ≢ faults.OutOfMemory → followed project (codes "vendor") ≡ Err fault) → ⊥
vendor_clean project fault at e h =
    let is : followed project (codes "vendor") ≡ Err fault = h (λ same. absurd (let no : faults.BadSegment at ≡ faults.OutOfMemory = sym e ∙ same in cc)) in
    let no : ◌≡◌ {A = Result (List (List ℕ)) PathFault} (Ok (project ++ vendor_name ∷ [])) (Err fault) = sym (vendor_followed project) ∙ is in absurd cc

pub vendor_inside : (project : List (List ℕ)) (fault : PathFault) (at : ℕ) → fault ≡ faults.AboveRoot at → (fault ≢ faults.OutOfMemory → followed project (codes "vendor") ≡ Err fault) → ⊥
vendor_inside project fault at e h =
    let is : followed project (codes "vendor") ≡ Err fault = h (λ same. absurd (let no : faults.AboveRoot at ≡ faults.OutOfMemory = sym e ∙ same in cc)) in
    let no : ◌≡◌ {A = Result (List (List ℕ)) PathFault} (Ok (project ++ vendor_name ∷ [])) (Err fault) = sym (vendor_followed project) ∙ is in absurd cc

pub vendor_is : (project path : List (List ℕ)) → followed project (codes "vendor") ≡ Ok path → path ≡ project ++ vendor_name ∷ []
vendor_is project path h = let is : ◌≡◌ {A = Result (List (List ℕ)) PathFault} (Ok (project ++ vendor_name ∷ [])) (Ok path) = sym (vendor_followed project) ∙ h in cc

-- ---- paths

module _ (project : List (List ℕ)) where
  pub front-at_root : (ts : List Placed) → front_from (path_next project) At_root ts ≡ (root_at project ts >>= λ r. front_from (path_next project) (At_dot r.0) r.1)
  front-at_root [] = refl
  front-at_root (t ∷ ts) = by t.token
    where
      by : (k : Token) → goes_on (path_next project At_root k) t ts (λ p. front_from (path_next project) p ts) ≡ (root_token project k t ts >>= λ r. front_from (path_next project) (At_dot r.0) r.1)
      by (Marked marks.VendorDir) = refl
      by (Marked marks.BaseDir) = refl
      by _ = refl

  pub front-at_dot : (from : List (List ℕ)) (ts : List Placed) → front_from (path_next project) (At_dot from) ts ≡ (token_at (Marked marks.Dot) ts >>= λ rest. front_from (path_next project) (At_text from) rest)
  front-at_dot from [] = refl
  front-at_dot from (t ∷ ts) = by t.token
    where
      by : (k : Token) → goes_on (path_next project (At_dot from) k) t ts (λ p. front_from (path_next project) p ts) ≡ (behind_wanted (is_wanted (Marked marks.Dot) k) t ts >>= λ rest. front_from (path_next project) (At_text from) rest)
      by (Marked marks.Dot) = refl
      by _ = refl

  pub path_reads : (ts behind rest : List Placed) (from : List (List ℕ)) → root_at project ts ≡ Ok (from, behind) → token_at (Marked marks.Dot) behind ≡ Ok rest → front_from (path_next project) At_root ts ≡ front_from (path_next project) (At_text from) rest
  path_reads ts behind rest from e f = front-at_root ts ∙ rw e (front-at_dot from behind ∙ rw f refl)

-- ---- folders

module _ (project : List (List ℕ)) where
  abbrev pub folders_from : FoldersPlace → List Placed → Result (List (List (List ℕ)) × List Placed) ℕ
  folders_from place ts = front_from (folders_next project) place ts

  abbrev pub path_from : PathPlace → List Placed → Result (List (List ℕ) × List Placed) ℕ
  path_from place ts = front_from (path_next project) place ts

  front-at_array : (ts : List Placed) → folders_from At_array ts ≡ (token_at (Marked marks.Array) ts >>= λ rest. folders_from At_open rest)
  front-at_array [] = refl
  front-at_array (t ∷ ts) = by t.token
    where
      by : (k : Token) → goes_on (folders_next project At_array k) t ts (λ p. front_from (folders_next project) p ts) ≡ (behind_wanted (is_wanted (Marked marks.Array) k) t ts >>= λ rest. folders_from At_open rest)
      by (Marked marks.Array) = refl
      by _ = refl

  front-at_open : (ts : List Placed) → folders_from At_open ts ≡ (token_at (Marked marks.Open) ts >>= λ rest. folders_from (At_folder []) rest)
  front-at_open [] = refl
  front-at_open (t ∷ ts) = by t.token
    where
      by : (k : Token) → goes_on (folders_next project At_open k) t ts (λ p. front_from (folders_next project) p ts) ≡ (behind_wanted (is_wanted (Marked marks.Open) k) t ts >>= λ rest. folders_from (At_folder []) rest)
      by (Marked marks.Open) = refl
      by _ = refl

  pub folders_open : (ts behind rest : List Placed) → token_at (Marked marks.Array) ts ≡ Ok behind → token_at (Marked marks.Open) behind ≡ Ok rest → folders_from At_array ts ≡ folders_from (At_folder []) rest
  folders_open ts behind rest e f = front-at_array ts ∙ rw e (front-at_open behind ∙ rw f refl)

  front-in_folder : (folders : List (List (List ℕ))) (place : PathPlace) (ts : List Placed) → folders_from (In_folder folders place) ts ≡ (path_from place ts >>= λ r. folders_from (After_folder (folders ++ r.0 ∷ [])) r.1)
  front-in_folder folders place [] = refl
  front-in_folder folders place (t ∷ ts) = by (path_next project place t.token) (λ p. front-in_folder folders p ts)
    where
      by : (o : Outcome PathPlace (List (List ℕ))) → ((p : PathPlace) → folders_from (In_folder folders p) ts ≡ (path_from p ts >>= λ r. folders_from (After_folder (folders ++ r.0 ∷ [])) r.1))
          → goes_on (inside_folders folders o) t ts (λ p. front_from (folders_next project) p ts) ≡ (goes_on o t ts (λ p. front_from (path_next project) p ts) >>= λ r. folders_from (After_folder (folders ++ r.0 ∷ [])) r.1)
      by (Next p) on = on p
      by (Done path) on = refl
      by Wrong on = refl

  pub folders_close : (folders : List (List (List ℕ))) (ts rest : List Placed) → token_at (Marked marks.Close) ts ≡ Ok rest → folders_from (At_folder folders) ts ≡ Ok (folders, rest)
  folders_close folders [] rest e = absurd cc
  folders_close folders (t ∷ ts) rest e = by t.token e
    where
      by : (k : Token) → behind_wanted (is_wanted (Marked marks.Close) k) t ts ≡ Ok rest → goes_on (folders_next project (At_folder folders) k) t ts (λ p. front_from (folders_next project) p ts) ≡ Ok (folders, rest)
      by (Marked marks.Close) f = let same : ts ≡ rest = cc in ap (λ r. Ok (folders, r)) same
      by _ f = absurd cc

  pub folders_path : (folders : List (List (List ℕ))) (ts : List Placed) (left : ℕ) → token_at (Marked marks.Close) ts ≡ Err left → folders_from (At_folder folders) ts ≡ (path_from At_root ts >>= λ r. folders_from (After_folder (folders ++ r.0 ∷ [])) r.1)
  folders_path folders [] left e = refl
  folders_path folders (t ∷ ts) left e = by t.token e ∙ front-in_folder folders At_root (t ∷ ts)
    where
      by : (k : Token) → behind_wanted (is_wanted (Marked marks.Close) k) t ts ≡ Err left
          → goes_on (folders_next project (At_folder folders) k) t ts (λ p. front_from (folders_next project) p ts) ≡ goes_on (folders_next project (In_folder folders At_root) k) t ts (λ p. front_from (folders_next project) p ts)
      by (Marked marks.Close) f = absurd cc
      by _ f = refl

  abbrev pub behind_folder_item : List (List (List ℕ)) → Behind → Result (List (List (List ℕ)) × List Placed) ℕ
  behind_folder_item folders (More rest) = folders_from (At_folder folders) rest
  behind_folder_item folders (Last rest) = Ok (folders, rest)

  pub front-after_folder : (folders : List (List (List ℕ))) (ts : List Placed) → folders_from (After_folder folders) ts ≡ (separator_at ts >>= behind_folder_item folders)
  front-after_folder folders [] = refl
  front-after_folder folders (t ∷ ts) = by t.token
    where
      by : (k : Token) → goes_on (folders_next project (After_folder folders) k) t ts (λ p. front_from (folders_next project) p ts) ≡ (separator_token k t ts >>= behind_folder_item folders)
      by (Marked marks.Comma) = refl
      by (Marked marks.Close) = refl
      by _ = refl

-- ---- where reading stops

pub fails_along : {X Y : Type 0} (stop : Stop) (wanted : Result Y ℕ) (o : Result X ℕ) (f : X → Result Y ℕ) → wanted ≡ (o >>= f) → Fails stop o → Fails stop wanted
fails_along (Bad left) wanted o f e h = e ∙ ap (λ r. r >>= f) h
fails_along OutOfMemory wanted o f e h = tt

pub stops_fails : {X : Type 0} (stop : Stop) (o : Result X ℕ) → StopsAt stop o → Fails stop o
stops_fails (Bad left) o h = h
stops_fails OutOfMemory o h = absurd h

-- ---- one more folder

module _ (project : List (List ℕ)) where
  pub chain_folder : (folders : List (List (List ℕ))) (text rest here : List Placed) (left : ℕ) → folders_from project (At_folder folders) rest ≡ folders_from project (At_folder []) text → here ≡ rest → token_at (Marked marks.Close) here ≡ Err left
      → folders_from project (At_folder []) text ≡ (path_from project At_root here >>= λ r. folders_from project (After_folder (folders ++ r.0 ∷ [])) r.1)
  chain_folder folders text rest here left e same close = sym e ∙ ap (λ ts. folders_from project (At_folder folders) ts) (sym same) ∙ folders_path project folders here left close

  pub chain_item : (folders grown : List (List (List ℕ))) (folder : List (List ℕ)) (text here after : List Placed) → folders_from project (At_folder []) text ≡ (path_from project At_root here >>= λ r. folders_from project (After_folder (folders ++ r.0 ∷ [])) r.1)
      → path_from project At_root here ≡ Ok (folder, after) → grown ≡ folders ++ folder ∷ [] → folders_from project (At_folder []) text ≡ (separator_at after >>= behind_folder_item project grown)
  chain_item folders grown folder text here after e path items = e ∙ ap (λ o. o >>= λ r. folders_from project (After_folder (folders ++ r.0 ∷ [])) r.1) path
      ∙ front-after_folder project (folders ++ folder ∷ []) after ∙ ap (λ fs. separator_at after >>= behind_folder_item project fs) (sym items)

-- a key that is not allowed
pub key_refused : (allowed : List ℕ → Bool) (b : Bool) (key : List ℕ) (ts rest : List Placed) (left : ℕ) → quoted_at ts ≡ Ok (key, rest) → b ≡ false → b ≡ allowed key → left_of ts ≡ left → key_at allowed ts ≡ Err left
key_refused allowed b key ts rest left e f g h = rw (e, ← g, f, h) refl
