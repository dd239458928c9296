-- Rows and their folders: they are read as they were printed.
use Rattle.std.proofs.Common.{◌≡◌, ℕ, Bool, true, List, [], ◌∷◌, ◌++◌, All, refl, sym, ap, ◌∙◌, append_assoc}
use Rattle.std.proofs.lemmas.List.Elements.{All-head, All-tail}
use Rattle.path_name.specs.Paths.{IsPath}
use Rattle.table_scan.specs.declared.mark.Mark.TheVariants as marks
use Rattle.table_scan.specs.TableTokens.{Token, Marked, Quoted, spelling}
use Rattle.table_scan.specs.TableGrammar.{IsPath as IsPathOf, IsList, no_items, last_item, next_item, IsFolders, IsRow}
use Rattle.table_scan.specs.QuotedTexts.{closed}
use Rattle.table_print.specs.TablePrinting.{row_start, row_arrow, row_end, folders_start, folders_between, folders_end, path_expression, folders_text, row_text}
use Rattle.table_print.specs.Printable.{IsBelow}
use Rattle.table_scan.proofs.TokenKinds.{kinds, at_quoted}
use Rattle.table_print.proofs.Words.{Word, Sign, Blank, at_words}
use Rattle.table_print.proofs.PathTexts.{IsRead, path_is_read}

-- ---- folders

-- one folder, and others behind it
next_is_read : (project : List (List ℕ)) (first : List (List ℕ)) (more : List (List (List ℕ))) (text : List ℕ) → IsRead (IsPathOf project) (path_expression project first) first → IsRead (IsList (IsPathOf project)) text more
    → IsRead (IsList (IsPathOf project)) (path_expression project first ++ (folders_between ++ text)) (first ∷ more)
unfolding folders_between spelling
next_is_read project first more text one others = record {
  inside = one.inside ++ Marked marks.Comma ∷ others.inside;
  is = next_item one.inside others.inside one.is others.is;
  read = λ rest. ap (λ t. kinds t) (append_assoc (path_expression project first) (folders_between ++ text) rest) ∙ one.read (44 ∷ 32 ∷ (text ++ rest))
      ∙ ap (λ ts. one.inside ++ ts) (at_words (Sign marks.Comma ∷ Blank 32 ∷ []) (text ++ rest) (tt, (refl, tt)) ∙ ap (λ ts. Marked marks.Comma ∷ ts) (others.read rest))
      ∙ sym (append_assoc one.inside (Marked marks.Comma ∷ others.inside) (kinds rest));
}

folders_are_read : (project : List (List ℕ)) (folders : List (List (List ℕ))) → All (IsBelow project) folders → All IsPath folders → IsRead (IsList (IsPathOf project)) (folders_text project folders) folders
folders_are_read project [] b s = record { inside = []; is = no_items; read = λ rest. refl }
folders_are_read project (folder ∷ []) b s =
    let one = path_is_read project folder (All-head (IsBelow project) folder [] b) (All-head IsPath folder [] s) in
    record { inside = one.inside; is = last_item one.is; read = one.read }
folders_are_read project (folder ∷ next ∷ rest) b s = next_is_read project folder (next ∷ rest) (folders_text project (next ∷ rest))
    (path_is_read project folder (All-head (IsBelow project) folder (next ∷ rest) b) (All-head IsPath folder (next ∷ rest) s))
    (folders_are_read project (next ∷ rest) (All-tail (IsBelow project) folder (next ∷ rest) b) (All-tail IsPath folder (next ∷ rest) s))

pub folders_value : (project : List (List ℕ)) (folders : List (List (List ℕ))) → All (IsBelow project) folders → All IsPath folders → IsRead (IsFolders project) (folders_start ++ (folders_text project folders ++ folders_end)) folders
unfolding folders_start folders_end spelling
folders_value project folders b s =
    let list = folders_are_read project folders b s in
    record {
      inside = Marked marks.Array ∷ Marked marks.Open ∷ (list.inside ++ Marked marks.Close ∷ []);
      is = record { inside = list.inside; list = list.is; parts = refl };
      read = λ rest. at_words (Sign marks.Array ∷ Sign marks.Open ∷ []) ((folders_text project folders ++ folders_end) ++ rest) (tt, (tt, tt))
          ∙ ap (λ ts. Marked marks.Array ∷ Marked marks.Open ∷ ts) (ap (λ t. kinds t) (append_assoc (folders_text project folders) folders_end rest) ∙ list.read (41 ∷ rest)
          ∙ ap (λ ts. list.inside ++ ts) (at_words (Sign marks.Close ∷ []) rest (tt, tt)) ∙ sym (append_assoc list.inside (Marked marks.Close ∷ []) (kinds rest)));
    }

-- ---- rows

abbrev key_words : List Word
key_words = Blank 32 ∷ Blank 32 ∷ Blank 32 ∷ Blank 32 ∷ []

abbrev arrow_words : List Word
arrow_words = Blank 32 ∷ Sign marks.Arrow ∷ Blank 32 ∷ []

-- the key of a row, and what stands behind it
pub key_is_read : (key rest : List ℕ) → kinds (row_start ++ (closed key ++ rest)) ≡ Quoted key ∷ kinds rest
unfolding row_start
key_is_read key rest = at_words key_words (39 ∷ (closed key ++ rest)) (refl, (refl, (refl, (refl, tt)))) ∙ at_quoted key rest

pub arrow_is_read : (rest : List ℕ) → kinds (row_arrow ++ rest) ≡ Marked marks.Arrow ∷ kinds rest
unfolding row_arrow spelling
arrow_is_read rest = at_words arrow_words rest (refl, (tt, (refl, tt)))

pub end_is_read : (rest : List ℕ) → kinds (row_end ++ rest) ≡ Marked marks.Comma ∷ kinds rest
unfolding row_end spelling
end_is_read rest = at_words (Sign marks.Comma ∷ Blank 10 ∷ []) rest (tt, (refl, tt))

-- a row's text before another text
pub row_parts : (key value rest : List ℕ) → row_text key value ++ rest ≡ row_start ++ (closed key ++ (row_arrow ++ (value ++ (row_end ++ rest))))
row_parts key value rest = append_assoc row_start (closed key ++ (row_arrow ++ (value ++ row_end))) rest
    ∙ ap (λ t. row_start ++ t) (append_assoc (closed key) (row_arrow ++ (value ++ row_end)) rest
    ∙ ap (λ t. closed key ++ t) (append_assoc row_arrow (value ++ row_end) rest ∙ ap (λ t. row_arrow ++ t) (append_assoc value row_end rest)))

pub row_kinds : (key text : List ℕ) (inside : List Token) → ((rest : List ℕ) → kinds (text ++ rest) ≡ inside ++ kinds rest) → (rest : List ℕ) → kinds (row_text key text ++ rest) ≡ (Quoted key ∷ Marked marks.Arrow ∷ inside) ++ Marked marks.Comma ∷ kinds rest
row_kinds key text inside read rest = ap (λ t. kinds t) (row_parts key text rest) ∙ key_is_read key (row_arrow ++ (text ++ (row_end ++ rest)))
    ∙ ap (λ ts. Quoted key ∷ ts) (arrow_is_read (text ++ (row_end ++ rest)) ∙ ap (λ ts. Marked marks.Arrow ∷ ts) (read (row_end ++ rest) ∙ ap (λ ts. inside ++ ts) (end_is_read rest)))

module _ {V R : Type 0} (allowed : List ℕ → Bool) (IsValue : List Token → V → Type 0) (make : List ℕ → V → R) where
  -- one row, and others behind it
  pub row_before : (key : List ℕ) (value : V) (text : List ℕ) (rows : List R) (lines : List ℕ) → allowed key ≡ true → IsRead IsValue text value → IsRead (IsList (IsRow allowed IsValue make)) lines rows
      → IsRead (IsList (IsRow allowed IsValue make)) (row_text key text ++ lines) (make key value ∷ rows)
  row_before key value text rows lines is_allowed one others = record {
    inside = (Quoted key ∷ Marked marks.Arrow ∷ one.inside) ++ Marked marks.Comma ∷ others.inside;
    is = next_item (Quoted key ∷ Marked marks.Arrow ∷ one.inside) others.inside (record { key = key; inside = one.inside; value = value; is_allowed = is_allowed; is_value = one.is; parts = refl; made = refl }) others.is;
    read = λ rest. ap (λ t. kinds t) (append_assoc (row_text key text) lines rest) ∙ row_kinds key text one.inside one.read (lines ++ rest)
        ∙ ap (λ ts. (Quoted key ∷ Marked marks.Arrow ∷ one.inside) ++ Marked marks.Comma ∷ ts) (others.read rest)
        ∙ sym (append_assoc (Quoted key ∷ Marked marks.Arrow ∷ one.inside) (Marked marks.Comma ∷ others.inside) (kinds rest));
  }

pub no_rows : {R : Type 0} (IsOneRow : List Token → R → Type 0) → IsRead (IsList IsOneRow) [] []
no_rows IsOneRow = record { inside = []; is = no_items; read = λ rest. refl }
