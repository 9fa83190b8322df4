-- Files in memory after one of them was set or added.
use Rattle.std.proofs.Common.{◌≡◌, ◌≢◌, ◌<◌, ℕ, ◌+◌, suc, List, [], ◌∷◌, ◌++◌, length, set, get_or, arith, refl, Option, Some, None, IsSome, Bool, true}
use Rattle.std.proofs.Common.{false, cond, string_bytes, ap, sym, ◌∙◌, subst}
use Rattle.std.specs.List.{position_from, AllPairs, IsDistinct, list_any, insert}
use Rattle.std.specs.Map.{lookup, set_value, keys_of}
use Rattle.std.specs.Str.{bytes_eq}
use Rattle.std.proofs.lemmas.Cmp.{nat_list_eq_equiv}
use Rattle.std.proofs.lemmas.Map.{lookup-set_value, keys-set_value, lookup-insert, none_passes_from_lookup}
use Rattle.std.proofs.lemmas.Map.Keys.{IsDistinct-push}
use Rattle.std.proofs.lemmas.Map.Made.{AllPairs-from_IsDistinct, IsDistinct-from_AllPairs}
use Rattle.std.proofs.lemmas.List.Edits.{insert_end}
use Rattle.std.proofs.lemmas.Slice.Eq.{bytes_eq-Decides}
use Rattle.alp_io.specs.declared.mem_shelf.File.{File}
use Rattle.alp_io.specs.MemShelf.{entries_of, files_of, HasDifferentNames}
use Rattle.alp_io.specs.Shelf.{Sets}

apart : (name other : List ℕ) → other ≢ name → bytes_eq name other ≡ false
apart name other h = by_test (bytes_eq name other) refl where
  by_test : (t : Bool) → bytes_eq name other ≡ t → bytes_eq name other ≡ false
  by_test true e = absurd (h (sym (grind (arith, bytes_eq-Decides name other, e))))
  by_test false e = e

-- a value that is set under a name that is there
pub sets_value : (name bytes : List ℕ) (es : List (List ℕ × List ℕ)) → IsSome (lookup (bytes_eq name) es)
    → Sets name bytes (files_of es) (files_of (set_value (bytes_eq name) es bytes))
sets_value name bytes es there =
    let found : (q : List ℕ) → lookup (bytes_eq q) (set_value (bytes_eq name) es bytes) ≡ cond (bytes_eq name q) (Some bytes) (lookup (bytes_eq q) es) =
    λ q. lookup-set_value nat_list_eq_equiv (bytes_eq name) (λ x y h. nat_list_eq_equiv.congr name x y h) q bytes es there in
    record {
      set = found name ∙ ap (λ t. cond t (Some bytes) (lookup (bytes_eq name) es)) (nat_list_eq_equiv.refl name);
      others = λ other h. found other ∙ ap (λ t. cond t (Some bytes) (lookup (bytes_eq other) es)) (apart name other h);
    }

-- a value that is added under a name that is not there
pub sets_added : (name bytes : List ℕ) (es : List (List ℕ × List ℕ)) → lookup (bytes_eq name) es ≡ None
    → Sets name bytes (files_of es) (files_of (es ++ (name, bytes) ∷ []))
sets_added name bytes es absent =
    let last : insert es (length es) (name, bytes) ≡ es ++ (name, bytes) ∷ [] = insert_end es (name, bytes) in
    let found : (q : List ℕ) → lookup (bytes_eq q) (es ++ (name, bytes) ∷ []) ≡ cond (bytes_eq name q) (Some bytes) (lookup (bytes_eq q) es) =
    λ q. subst (λ l. lookup (bytes_eq q) l ≡ cond (bytes_eq name q) (Some bytes) (lookup (bytes_eq q) es)) last
    (lookup-insert nat_list_eq_equiv name bytes q es (length es) (none_passes_from_lookup (bytes_eq name) es absent)) in
    record {
      set = found name ∙ ap (λ t. cond t (Some bytes) (lookup (bytes_eq name) es)) (nat_list_eq_equiv.refl name);
      others = λ other h. found other ∙ ap (λ t. cond t (Some bytes) (lookup (bytes_eq other) es)) (apart name other h);
    }

pub different_set : (name bytes : List ℕ) (es : List (List ℕ × List ℕ)) → HasDifferentNames es → HasDifferentNames (set_value (bytes_eq name) es bytes)
different_set name bytes es h = subst (λ ks. AllPairs (λ name other. name ≢ other) ks) (sym (keys-set_value (bytes_eq name) es bytes)) h

none_by : (t : Bool) (name : List ℕ) (e : List ℕ × List ℕ) (es : List (List ℕ × List ℕ)) → bytes_eq name e.0 ≡ t
    → cond t (Some e.1) (lookup (bytes_eq name) es) ≡ None → (lookup (bytes_eq name) es ≡ None → list_any (bytes_eq name) (keys_of es) ≡ false)
    → list_any (bytes_eq name) (keys_of (e ∷ es)) ≡ false
none_by true name e es is h rest = absurd (cc)
none_by false name e es is h rest = rw is (rest h)

none_among : (name : List ℕ) (es : List (List ℕ × List ℕ)) → lookup (bytes_eq name) es ≡ None → list_any (bytes_eq name) (keys_of es) ≡ false
none_among name [] h = refl
none_among name (e ∷ es) h = none_by (bytes_eq name e.0) name e es refl h (none_among name es)

keys_added : (es : List (List ℕ × List ℕ)) (e : List ℕ × List ℕ) → keys_of (es ++ e ∷ []) ≡ keys_of es ++ e.0 ∷ []
keys_added [] e = refl
keys_added (d ∷ es) e = ap (λ ks. d.0 ∷ ks) (keys_added es e)

pub different_added : (name bytes : List ℕ) (es : List (List ℕ × List ℕ)) → HasDifferentNames es → lookup (bytes_eq name) es ≡ None
    → HasDifferentNames (es ++ (name, bytes) ∷ [])
different_added name bytes es h absent =
    let before : IsDistinct bytes_eq (keys_of es) = IsDistinct-from_AllPairs bytes_eq-Decides (keys_of es) h in
    let after : IsDistinct bytes_eq (keys_of es ++ name ∷ []) = IsDistinct-push nat_list_eq_equiv (keys_of es) name before (none_among name es absent) in
    subst (λ ks. AllPairs (λ name other. name ≢ other) ks) (sym (keys_added es (name, bytes)))
    (AllPairs-from_IsDistinct bytes_eq-Decides (keys_of es ++ name ∷ []) after)

-- the file at a place has the name, no earlier one has it
pub record IsPlace (name : List ℕ) (files : List File) (i : ℕ) : Type 0 where
  pub inside : i < length files
  pub there : IsSome (lookup (bytes_eq name) (entries_of files))
  pub changed : (file old : File) → old ≡ get_or files i old → string_bytes file.name ≡ string_bytes old.name
      → entries_of (set files i file) ≡ set_value (bytes_eq name) (entries_of files) file.bytes.items

place_first : (name : List ℕ) (f : File) (fs : List File) → bytes_eq name (string_bytes f.name) ≡ true → IsPlace name (f ∷ fs) 0
place_first name f fs e = record {
  inside = omega arith;
  there = rw e refl;
  changed = λ file old is same. rw (e, same, is) refl;
}

place_later : (name : List ℕ) (f : File) (fs : List File) (i : ℕ) → bytes_eq name (string_bytes f.name) ≡ false → IsPlace name fs i
    → IsPlace name (f ∷ fs) (suc i)
place_later name f fs i e p = record {
  inside = (let h = p.inside in omega arith);
  there = rw e p.there;
  changed = λ file old is same. rw e (ap (λ es. (string_bytes f.name, f.bytes.items) ∷ es) (p.changed file old is same));
}

-- the place that a search from the n-th file on gives
abbrev Searched : List ℕ → List File → ℕ → Option ℕ
Searched name files n = position_from (λ file. bytes_eq name (string_bytes file.name)) n files

abbrev FoundAt : List ℕ → List File → ℕ → ℕ → Type 0
FoundAt name files n j = (i : ℕ) × (j ≡ n + i) × IsPlace name files i

place_by : (t : Bool) (name : List ℕ) (f : File) (fs : List File) (n j : ℕ) → bytes_eq name (string_bytes f.name) ≡ t
    → cond t (Some n) (Searched name fs (n + 1)) ≡ Some j → (Searched name fs (n + 1) ≡ Some j → FoundAt name fs (n + 1) j) → FoundAt name (f ∷ fs) n j
place_by true name f fs n j e h rest = (0, (let is : n ≡ j = cc in omega arith), place_first name f fs e)
place_by false name f fs n j e h rest =
    let later = rest h in
    (suc later.0, (let is : j ≡ n + 1 + later.0 = later.1 in omega arith), place_later name f fs later.0 e later.2)

place_found : (name : List ℕ) (files : List File) (n j : ℕ) → Searched name files n ≡ Some j → FoundAt name files n j
place_found name [] n j h = absurd (cc)
place_found name (f ∷ fs) n j h = place_by (bytes_eq name (string_bytes f.name)) name f fs n j refl h (place_found name fs (n + 1) j)

missing_by : (t : Bool) (name : List ℕ) (f : File) (fs : List File) (n : ℕ) → bytes_eq name (string_bytes f.name) ≡ t
    → cond t (Some n) (Searched name fs (n + 1)) ≡ None → (Searched name fs (n + 1) ≡ None → lookup (bytes_eq name) (entries_of fs) ≡ None)
    → lookup (bytes_eq name) (entries_of (f ∷ fs)) ≡ None
missing_by true name f fs n e h rest = absurd (cc)
missing_by false name f fs n e h rest = rw e (rest h)

missing_from : (name : List ℕ) (files : List File) (n : ℕ) → Searched name files n ≡ None → lookup (bytes_eq name) (entries_of files) ≡ None
missing_from name [] n h = refl
missing_from name (f ∷ fs) n h = missing_by (bytes_eq name (string_bytes f.name)) name f fs n refl h (missing_from name fs (n + 1))

-- where a search gives no place, no file has the name
pub place_missing : (name : List ℕ) (files searched : List File) → searched ≡ files
    → None ≡ position_from (λ file. bytes_eq name (string_bytes file.name)) 0 searched → lookup (bytes_eq name) (entries_of files) ≡ None
place_missing name files searched same h = missing_from name files 0 (sym (rw same at h))

-- the place that a search gives
pub place_is : (name : List ℕ) (files searched : List File) (j : ℕ) → searched ≡ files
    → Some j ≡ position_from (λ file. bytes_eq name (string_bytes file.name)) 0 searched → IsPlace name files j
place_is name files searched j same h =
    let found = place_found name files 0 j (sym (rw same at h)) in
    let is : j ≡ found.0 = (let e : j ≡ 0 + found.0 = found.1 in omega arith) in
    subst (λ i. IsPlace name files i) (sym is) found.2

-- the entries after the file at a place was set
pub entries_set : (name bytes : List ℕ) (files : List File) (j : ℕ) (file old : File) → IsPlace name files j → old ≡ get_or files j old
    → string_bytes file.name ≡ string_bytes old.name → file.bytes.items ≡ bytes → HasDifferentNames (entries_of files)
    → Sets name bytes (files_of (entries_of files)) (files_of (entries_of (set files j file))) × HasDifferentNames (entries_of (set files j file))
entries_set name bytes files j file old place is same holds different =
    let change : entries_of (set files j file) ≡ set_value (bytes_eq name) (entries_of files) bytes =
    place.changed file old is same ∙ ap (λ b. set_value (bytes_eq name) (entries_of files) b) holds in
    rw change (sets_value name bytes (entries_of files) place.there, different_set name bytes (entries_of files) different)

-- the entries after a file was added
pub entries_added : (name bytes : List ℕ) (before after : List (List ℕ × List ℕ)) (given held : List ℕ) → lookup (bytes_eq name) before ≡ None
    → after ≡ before ++ (given, held) ∷ [] → given ≡ name → held ≡ bytes → HasDifferentNames before
    → Sets name bytes (files_of before) (files_of after) × HasDifferentNames after
entries_added name bytes before after given held absent is same holds different =
    let added : after ≡ before ++ (name, bytes) ∷ [] = is ∙ ap (λ n. before ++ (n, held) ∷ []) same ∙ ap (λ h. before ++ (name, h) ∷ []) holds in
    rw added (sets_added name bytes before absent, different_added name bytes before different absent)
