-- The files that a tree of entries stands for: what is found there, and what an update makes of them.
use Rattle.std.proofs.Common.{◌≡◌, ℕ, Bool, true, false, cond, List, [], ◌∷◌, map, Some, refl, sym, ap, ◌∙◌, Option, String, string_bytes}
use Rattle.std.specs.Option.{option_map}
use Rattle.std.specs.Ordering.{nat_cmp}
use Rattle.std.specs.Cmp.{eq_by_cmp_equiv}
use Rattle.std.specs.Cmp.Lexicographic.{slice_cmp, nat_list_cmp_total}
use Rattle.std.specs.BTreeMap.{BTreeMap, get_by_text}
use Rattle.std.specs.Map.{lookup, update}
use Rattle.std.specs.Str.{bytes_eq}
use Rattle.std.specs.FinMap as fin
use Rattle.std.proofs.lemmas.Map.Text.{is_eq-slice_cmp, text_cmp}
use Rattle.std.proofs.lemmas.Map.Lookups.{exact_bytes}
use Rattle.std.specs.BTreeMap.{is_at}
use Rattle.std.specs.declared.alloc.Global.{Global}
use Rattle.vt_io.specs.declared.mem_files.MemFile.{MemFile}
use Rattle.vt_io.specs.Kept.{file_of, files_of}

option_map-cond : {A B : Type 0} (f : A → B) (b : Bool) (x : A) (o : Option A) → option_map f (cond b (Some x) o) ≡ cond b (Some (f x)) (option_map f o)
option_map-cond f true x o = refl
option_map-cond f false x o = refl

find_by_text : (q : List ℕ) (es : List (String Global × MemFile))
    → fin.find (slice_cmp nat_cmp) q (map (λ e. (string_bytes e.0, file_of e.1)) es) ≡ option_map file_of (lookup (is_at (text_cmp q)) es)
find_by_text q [] = refl
find_by_text q (e ∷ es) =
    ap (cond (is_at (text_cmp q) e.0) (Some (file_of e.1))) (find_by_text q es)
    ∙ sym (option_map-cond file_of (is_at (text_cmp q) e.0) e.1 (lookup (is_at (text_cmp q)) es))

-- what is held under a name
pub get-files_of : (m : BTreeMap (String Global) MemFile) (q : List ℕ) → fin.get (files_of m) q ≡ option_map file_of (get_by_text m q)
get-files_of m q = fin.get-from_entries nat_list_cmp_total _ q ∙ find_by_text q m.entries

-- a tree that has another file under one name stands for the files with that one set
pub files_of-updated : (m n : BTreeMap (String Global) MemFile) (name : List ℕ) (file : MemFile)
    → ((q : List ℕ) → get_by_text n q ≡ update bytes_eq (get_by_text m) name (Some file) q)
    → files_of n ≡ fin.insert (files_of m) name (file_of file)
files_of-updated m n name file updated = fin.same_map nat_list_cmp_total exact_bytes _ _ (λ q.
    get-files_of n q ∙ ap (option_map file_of) (updated q) ∙ option_map-cond file_of (bytes_eq name q) file _ ∙ sym (
    fin.get-insert nat_list_cmp_total (files_of m) name (file_of file) q
    ∙ ap (λ b. cond b (Some (file_of file)) (fin.get (files_of m) q)) ((eq_by_cmp_equiv nat_list_cmp_total).symm q name ∙ is_eq-slice_cmp name q)
    ∙ ap (cond (bytes_eq name q) (Some (file_of file))) (get-files_of m q)))
