-- Paths and folders by the grammar, and as they are read.
use Rattle.std.proofs.Common.{◌≡◌, ℕ, eqb, List, [], ◌∷◌, ◌++◌, Option, Some, None, Result, Ok, Err, ◌⊎◌, inl, inr, refl, sym, ap, subst, ◌∙◌, append_assoc, eqb-true}
use Rattle.std.specs.Str.{is_utf8, chars}
use Rattle.std.specs.Result.{result_ok}
use Rattle.std.proofs.lemmas.List.{append-nil}
use Rattle.path_name.specs.Paths.{followed}
use Rattle.path_name.specs.declared.fault.PathFault.{PathFault}
use Rattle.table_scan.specs.declared.mark.Mark.TheVariants as marks
use Rattle.table_scan.specs.TableTokens.{Token, Marked, Quoted}
use Rattle.table_scan.specs.TableGrammar.{vendor_name, Leads, IsPath, in_vendor, in_project, IsList, no_items, last_item, next_item, IsFolders}
use Rattle.table_scan.specs.TableReading.{Outcome, Next, Done, Wrong, PathPlace, At_root, At_dot, At_text, led_to, path_done, path_next, FoldersPlace, At_array, At_open, At_folder, In_folder, After_folder, inside_folders, folders_next}
use Rattle.table_scan.proofs.Cases.{by_test}
use Rattle.table_scan.proofs.Walks.{all_of, walk, Completes, walk_inside}

-- ---- texts

ok_of : {X : Type 0} (r : Result X PathFault) (x : X) → result_ok r ≡ Some x → r ≡ Ok x
ok_of (Ok y) x e = let same : y ≡ x = cc in ap (λ v. Ok v) same
ok_of (Err f) x e = absurd cc

leads_to : (from path : List (List ℕ)) (text : List ℕ) → Leads from text path → led_to from text ≡ Some path
leads_to from path text l = rw l.slash (ap result_ok (ap (followed from) (sym l.slash) ∙ l.read))

text_leads : (from path : List (List ℕ)) (text : List ℕ) → led_to from text ≡ Some path → Leads from text path
text_leads from path [] e = absurd cc
text_leads from path (byte ∷ rest) e = by_test (eqb byte 47)
    (λ b. record { rest = rest; slash = ap (λ x. x ∷ rest) (eqb-true byte 47 b); read = ok_of (followed from (byte ∷ rest)) path (rw b at e) })
    (λ b. absurd (let no : ◌≡◌ {A = Option (List (List ℕ))} None (Some path) = rw b at e in cc))

-- ---- paths

module _ (project : List (List ℕ)) where
  pub path_walk : {ks : List Token} {path : List (List ℕ)} → IsPath project ks path → walk (path_next project) At_root ks ≡ Done path
  path_walk (in_vendor {text} {path} l) = rw (leads_to (project ++ vendor_name ∷ []) path text l) refl
  path_walk (in_project {text} {path} l) = rw (leads_to project path text l) refl

  record TextLeads (from : List (List ℕ)) (ks : List Token) (path : List (List ℕ)) : Type 0 where
    text : List ℕ
    parts : ks ≡ Quoted text ∷ []
    leads : Leads from text path

  text_done : (from path : List (List ℕ)) (text : List ℕ) (ks : List Token) (o : Option (List (List ℕ))) → led_to from text ≡ o → all_of (path_done o) ks (λ p. walk (path_next project) p ks) ≡ Done path → TextLeads from (Quoted text ∷ ks) path
  text_done from path text [] (Some found) e f = let same : found ≡ path = cc in record { text = text; parts = refl; leads = text_leads from path text (e ∙ ap (λ x. Some x) same) }
  text_done from path text (k ∷ ks) (Some found) e f = absurd cc
  text_done from path text ks None e f = absurd cc

  walk_text : (from path : List (List ℕ)) (ks : List Token) → walk (path_next project) (At_text from) ks ≡ Done path → TextLeads from ks path
  walk_text from path [] e = absurd cc
  walk_text from path (Quoted text ∷ ks) e = text_done from path text ks (led_to from text) refl e
  walk_text from path (_ ∷ ks) e = absurd cc

  walk_dot : (from path : List (List ℕ)) (ks : List Token) → walk (path_next project) (At_dot from) ks ≡ Done path → (text : List ℕ) × (ks ≡ Marked marks.Dot ∷ Quoted text ∷ []) × Leads from text path
  walk_dot from path [] e = absurd cc
  walk_dot from path (Marked marks.Dot ∷ ks) e = let t = walk_text from path ks e in (t.text, ap (λ us. Marked marks.Dot ∷ us) t.parts, t.leads)
  walk_dot from path (_ ∷ ks) e = absurd cc

  pub walk_path : (ks : List Token) (path : List (List ℕ)) → walk (path_next project) At_root ks ≡ Done path → IsPath project ks path
  walk_path [] path e = absurd cc
  walk_path (Marked marks.VendorDir ∷ ks) path e = let d = walk_dot (project ++ vendor_name ∷ []) path ks e in rw d.1 (in_vendor d.2)
  walk_path (Marked marks.BaseDir ∷ ks) path e = let d = walk_dot project path ks e in rw d.1 (in_project d.2)
  walk_path (_ ∷ ks) path e = absurd cc

  slash_leads : (from : List (List ℕ)) → led_to from (47 ∷ []) ≡ Some from
  unfolding followed is_utf8 chars lib.Utf8.encode
  slash_leads from = refl

  text_completes : (from : List (List ℕ)) → Completes (path_next project) (At_text from)
  text_completes from = (Quoted (47 ∷ []) ∷ [], from, rw (slash_leads from) refl)

  pub path_completes : (place : PathPlace) → Completes (path_next project) place
  path_completes At_root = (Marked marks.BaseDir ∷ Marked marks.Dot ∷ Quoted (47 ∷ []) ∷ [], project, rw (slash_leads project) refl)
  path_completes (At_dot from) = (Marked marks.Dot ∷ Quoted (47 ∷ []) ∷ [], from, rw (slash_leads from) refl)
  path_completes (At_text from) = text_completes from

  -- ---- folders

  folder_inside : (folders : List (List (List ℕ))) (place : PathPlace) (ks rest : List Token) (path : List (List ℕ)) → walk (path_next project) place ks ≡ Done path
      → walk (folders_next project) (In_folder folders place) (ks ++ rest) ≡ walk (folders_next project) (After_folder (folders ++ path ∷ [])) rest
  folder_inside folders place ks rest path e =
      walk_inside (path_next project) (folders_next project) (In_folder folders) (λ path. After_folder (folders ++ path ∷ [])) (inside_folders folders) (λ p. refl) (λ v. refl) (λ p k. refl) place ks rest path e

  -- a path at the front
  path_first : (folders : List (List (List ℕ))) (rest : List Token) {ks : List Token} {path : List (List ℕ)} → IsPath project ks path
      → walk (folders_next project) (At_folder folders) (ks ++ rest) ≡ walk (folders_next project) (After_folder (folders ++ path ∷ [])) rest
  path_first folders rest (in_vendor {text} {path} l) = folder_inside folders At_root (Marked marks.VendorDir ∷ Marked marks.Dot ∷ Quoted text ∷ []) rest path (path_walk (in_vendor l))
  path_first folders rest (in_project {text} {path} l) = folder_inside folders At_root (Marked marks.BaseDir ∷ Marked marks.Dot ∷ Quoted text ∷ []) rest path (path_walk (in_project l))

  list_walk : (folders : List (List (List ℕ))) {ks : List Token} {items : List (List (List ℕ))} → IsList (IsPath project) ks items → walk (folders_next project) (At_folder folders) (ks ++ Marked marks.Close ∷ []) ≡ Done (folders ++ items)
  list_walk folders no_items = ap Done (sym (append-nil folders))
  list_walk folders (last_item {ts} {x} i) = path_first folders (Marked marks.Close ∷ []) i
  list_walk folders (next_item ts more {x} {xs} i l) =
      ap (walk (folders_next project) (At_folder folders)) (append_assoc ts (Marked marks.Comma ∷ more) (Marked marks.Close ∷ []))
      ∙ path_first folders (Marked marks.Comma ∷ (more ++ Marked marks.Close ∷ [])) i
      ∙ list_walk (folders ++ x ∷ []) l ∙ ap Done (append_assoc folders (x ∷ []) xs)

  pub folders_walk : (ks : List Token) (folders : List (List (List ℕ))) → IsFolders project ks folders → walk (folders_next project) At_array ks ≡ Done folders
  folders_walk ks folders f = rw f.parts (list_walk [] f.list)

  -- what may still come
  record Items (folders : List (List (List ℕ))) (ks : List Token) (all : List (List (List ℕ))) : Type 0 where
    inside : List Token
    items : List (List (List ℕ))
    list : IsList (IsPath project) inside items
    parts : ks ≡ inside ++ Marked marks.Close ∷ []
    whole : all ≡ folders ++ items

  record MoreItems (folders : List (List (List ℕ))) (ks : List Token) (all : List (List (List ℕ))) : Type 0 where
    inside : List Token
    comma : ks ≡ Marked marks.Comma ∷ inside
    more : Items folders inside all

  abbrev After : List (List (List ℕ)) → List Token → List (List (List ℕ)) → Type 0
  After folders ks all = ((ks ≡ Marked marks.Close ∷ []) × (all ≡ folders)) ⊎ MoreItems folders ks all

  record Inside (folders : List (List (List ℕ))) (place : PathPlace) (ks : List Token) (all : List (List (List ℕ))) : Type 0 where
    used : List Token
    behind : List Token
    path : List (List ℕ)
    read : walk (path_next project) place used ≡ Done path
    parts : ks ≡ used ++ behind
    after : After (folders ++ path ∷ []) behind all

  inside_step : (folders all : List (List (List ℕ))) (place : PathPlace) (k : Token) (ks : List Token) (o : Outcome PathPlace (List (List ℕ))) → path_next project place k ≡ o
      → ((p : PathPlace) → walk (folders_next project) (In_folder folders p) ks ≡ Done all → Inside folders p ks all)
      → ((path : List (List ℕ)) → walk (folders_next project) (After_folder (folders ++ path ∷ [])) ks ≡ Done all → After (folders ++ path ∷ []) ks all)
      → all_of (inside_folders folders o) ks (λ p. walk (folders_next project) p ks) ≡ Done all → Inside folders place (k ∷ ks) all
  inside_step folders all place k ks (Next p) e on_next on_done f = let i = on_next p f in record { used = k ∷ i.used; behind = i.behind; path = i.path; read = rw e i.read; parts = ap (λ us. k ∷ us) i.parts; after = i.after }
  inside_step folders all place k ks (Done path) e on_next on_done f = record { used = k ∷ []; behind = ks; path = path; read = rw e refl; parts = refl; after = on_done path f }
  inside_step folders all place k ks Wrong e on_next on_done f = absurd cc

  -- a path and what follows it are items
  items_of : (folders all : List (List (List ℕ))) (ks : List Token) → Inside folders At_root ks all → Items folders ks all
  items_of folders all ks i = by i.after
    where
      by : After (folders ++ i.path ∷ []) i.behind all → Items folders ks all
      by (inl (close, is)) = record { inside = i.used; items = i.path ∷ []; list = last_item (walk_path i.used i.path i.read); parts = i.parts ∙ ap (λ us. i.used ++ us) close; whole = is }
      by (inr m) = record {
        inside = i.used ++ Marked marks.Comma ∷ m.more.inside;
        items = i.path ∷ m.more.items;
        list = next_item i.used m.more.inside (walk_path i.used i.path i.read) m.more.list;
        parts = i.parts ∙ ap (λ us. i.used ++ us) (m.comma ∙ ap (λ us. Marked marks.Comma ∷ us) m.more.parts) ∙ sym (append_assoc i.used (Marked marks.Comma ∷ m.more.inside) (Marked marks.Close ∷ []));
        whole = m.more.whole ∙ append_assoc folders (i.path ∷ []) m.more.items;
      }

  closed_now : (folders all : List (List (List ℕ))) (ks : List Token) (read : FoldersPlace → Outcome FoldersPlace (List (List (List ℕ)))) → all_of (Done folders) ks read ≡ Done all → (ks ≡ []) × (all ≡ folders)
  closed_now folders all [] read e = let same : folders ≡ all = cc in (refl, sym same)
  closed_now folders all (k ∷ ks) read e = absurd cc

  mutual
    at_folder : (ks : List Token) (folders all : List (List (List ℕ))) → walk (folders_next project) (At_folder folders) ks ≡ Done all → Items folders ks all
    at_folder [] folders all e = absurd cc
    at_folder (Marked marks.Close ∷ ks) folders all e = let c = closed_now folders all ks _ e in record { inside = []; items = []; list = no_items; parts = ap (λ us. Marked marks.Close ∷ us) c.0; whole = c.1 ∙ sym (append-nil folders) }
    at_folder (k ∷ ks) folders all e = items_of folders all (k ∷ ks) (inside_step folders all At_root k ks (path_next project At_root k) refl (λ p f. in_folder ks folders p all f) (λ path f. after_folder ks (folders ++ path ∷ []) all f) e)

    in_folder : (ks : List Token) (folders : List (List (List ℕ))) (place : PathPlace) (all : List (List (List ℕ))) → walk (folders_next project) (In_folder folders place) ks ≡ Done all → Inside folders place ks all
    in_folder [] folders place all e = absurd cc
    in_folder (k ∷ ks) folders place all e = inside_step folders all place k ks (path_next project place k) refl (λ p f. in_folder ks folders p all f) (λ path f. after_folder ks (folders ++ path ∷ []) all f) e

    after_folder : (ks : List Token) (folders all : List (List (List ℕ))) → walk (folders_next project) (After_folder folders) ks ≡ Done all → After folders ks all
    after_folder [] folders all e = absurd cc
    after_folder (Marked marks.Comma ∷ ks) folders all e = inr (record { inside = ks; comma = refl; more = at_folder ks folders all e })
    after_folder (Marked marks.Close ∷ ks) folders all e = let c = closed_now folders all ks _ e in inl (ap (λ us. Marked marks.Close ∷ us) c.0, c.1)
    after_folder (_ ∷ ks) folders all e = absurd cc

  at_open : (ks : List Token) (all : List (List (List ℕ))) → walk (folders_next project) At_open ks ≡ Done all → (us : List Token) × (ks ≡ Marked marks.Open ∷ us) × Items [] us all
  at_open [] all e = absurd cc
  at_open (Marked marks.Open ∷ ks) all e = (ks, refl, at_folder ks [] all e)
  at_open (_ ∷ ks) all e = absurd cc

  pub walk_folders : (ks : List Token) (all : List (List (List ℕ))) → walk (folders_next project) At_array ks ≡ Done all → IsFolders project ks all
  walk_folders [] all e = absurd cc
  walk_folders (Marked marks.Array ∷ ks) all e =
      let o = at_open ks all e in
      record { inside = o.2.inside; list = subst (λ (x : List (List (List ℕ))). IsList (IsPath project) o.2.inside x) (sym o.2.whole) o.2.list; parts = ap (λ us. Marked marks.Array ∷ us) (o.1 ∙ ap (λ us. Marked marks.Open ∷ us) o.2.parts) }
  walk_folders (_ ∷ ks) all e = absurd cc

  pub folders_complete : (place : FoldersPlace) → Completes (folders_next project) place
  folders_complete At_array = (Marked marks.Array ∷ Marked marks.Open ∷ Marked marks.Close ∷ [], [], refl)
  folders_complete At_open = (Marked marks.Open ∷ Marked marks.Close ∷ [], [], refl)
  folders_complete (At_folder folders) = (Marked marks.Close ∷ [], folders, refl)
  folders_complete (In_folder folders place) = let c = path_completes place in (c.0 ++ Marked marks.Close ∷ [], folders ++ c.1 ∷ [], folder_inside folders place c.0 (Marked marks.Close ∷ []) c.1 c.2)
  folders_complete (After_folder folders) = (Marked marks.Close ∷ [], folders, refl)
