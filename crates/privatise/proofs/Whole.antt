-- The whole layout from its parts.
use Rattle.std.proofs.Common.{◌≡◌, ℕ, ◌+◌, ◌*◌, ◌%◌, ◌<◌, ◌≤◌, Bool, true, false, List, length, map, refl, sym, ◌∙◌, ap, subst, arith, Option, Some, None}
use Rattle.std.specs.Prelude.{slice_get, slice_index_or, All, IsSomeAnd}
use Rattle.std.specs.List.{flat_map}
use Rattle.std.proofs.lemmas.List.Elements.{All-weaker}
use Rattle.std.proofs.lemmas.Option.{slice_get_within}
use Rattle.task_check.specs.Placed.{IsPlaced as StandsWhereItMay}
use Rattle.task_ast.specs.Paths.{CheckedFunction}
use Rattle.task_ast.specs.declared.Extent.{Extent}
use Rattle.task_ast.specs.declared.Extent.TheVariants as extent
use Rattle.task_ast.specs.declared.SharedDeclaration.{SharedDeclaration}
use Rattle.cost_bound.specs.declared.allowance.Allow.{Allow}
use Rattle.cost_bound.specs.Counts.{CheckedBlock, emits_of}
use Rattle.cost_bound.specs.Summaries.{summaries}
use Rattle.cost_bound.specs.Allowance.{CheckedProgram, version_part, is_written, total, greatest, list_of, plain_words_of, versions_of, IsAllowed}
use Rattle.cost_bound.proofs.Interface.{written_sum}
use Rattle.war_analysis.specs.PlanValue.{TaskPlanValue}
use Rattle.war_analysis.specs.Plans.{is_scalar, IsPrivateIn, IsPlan}
use Rattle.war_analysis.proofs.Interface.{element}
use Rattle.memory_map.specs.address_space.Limits.{fram_first, program_end}
use Rattle.memory_map.specs.declared.place.VariablePlace.{VariablePlace}
use Rattle.privatise.specs.declared.variables.Free.{Free}
use Rattle.privatise.specs.declared.sizes.Sizes.{Sizes}
use Rattle.memory_map.specs.declared.layouts.Regions.{Regions}
use Rattle.memory_map.specs.declared.place.Region.{Region}
use Rattle.memory_map.specs.Words.{row_words}
use Rattle.memory_map.specs.declared.runtime.Runtime.{Runtime}
use Rattle.memory_map.specs.MemoryMap.{TaskPlace, parts, row_region}
use Rattle.memory_map.specs.View.{map_with}
use Rattle.memory_map.specs.Places.{end_of, list_entry_room, home_region, copy_regions, version_regions, code_regions, IsBehind, AreInOrder, IsLaidOut}
use Rattle.privatise.specs.Routines.{known_functions}
use Rattle.privatise.specs.Sizes.{home_words, copy_part, copy_words, body_words, boot_words, commit_words}
use Rattle.memory_map.specs.declared.runtime.Logging.TheVariants.{Redo}
use Rattle.privatise.specs.Layouts.{IsPlaceOf, AreVariables, IsLayout, runtime_for}
use Rattle.privatise.specs.Placing.{place_at, copy_sum, version_sum, IsRoom, ArePlaced, is_scalar_place, IsScalarPlaceAt, ArePlacedTasks, AreSizes, AreRegions}
use Rattle.privatise.proofs.Sums.{words_split, plain_small}
use Rattle.privatise.proofs.VariablesPlaced.{kind_at}

-- the marks of the variables that some task writes
abbrev pub AreWritten : CheckedProgram → List Bool → Type 0
AreWritten p written = (i : ℕ) → i < 256 → slice_index_or written i false ≡ is_written (summaries p) p.tasks i

-- ---- the sizes

-- the words of each region whose size is the source's
pub record Amounts : Type 0 where
  pub list : ℕ
  pub emits : ℕ
  pub versions : ℕ
  pub homes : ℕ
  pub copies : ℕ
  pub boot : ℕ
  pub code : ℕ

abbrev pub words_with : Amounts → ℕ
words_with n = row_words + commit_words + 3 * n.list + n.emits + n.versions + n.homes + n.copies + n.boot + n.code

-- what a source needs
abbrev pub needed : CheckedProgram → Amounts
needed p = record {
  list = greatest (list_of (summaries p) p.shared) p.tasks;
  emits = greatest (emits_of (summaries p)) p.tasks;
  versions = versions_of p;
  homes = home_words p.shared;
  copies = copy_words p;
  boot = boot_words (summaries p) p.shared p.tasks;
  code = total (body_words (summaries p) p.shared) p.tasks;
}

-- all but the vector, whose word is the last
pub adds_up : (p : CheckedProgram) (n : Amounts) → n ≡ needed p → words_with n + 1 ≡ plain_words_of p
adds_up p n e = ap (λ m. words_with m + 1) e ∙ words_split p

pub sizes_add : (p : CheckedProgram) (allow : Allow) (s : Sizes) → IsAllowed p allow → AreSizes p s
    → (row_words + commit_words + 3 * allow.list + allow.emits + allow.versions + s.homes + s.copies + s.boot + s.code) + 1 ≡ plain_words_of p
sizes_add p allow s a k =
    let given : Amounts = record {
      list = allow.list;
      emits = allow.emits;
      versions = allow.versions;
      homes = s.homes;
      copies = s.copies;
      boot = s.boot;
      code = s.code;
    } in
    adds_up p given (λ j. record {
      list = a.list j;
      emits = a.emits j;
      versions = a.versions j;
      homes = k.homes j;
      copies = k.copies j;
      boot = k.boot j;
      code = k.code j;
    })

below_top : (n w : ℕ) → n + 1 ≡ w → w ≤ 22000 → fram_first + 2 * n ≤ program_end
below_top n w e h = omega (arith, e, h)

pub sizes_fit : (p : CheckedProgram) (allow : Allow) (s : Sizes) → IsAllowed p allow → AreSizes p s
    → fram_first + 2 * (row_words + commit_words + 3 * allow.list + allow.emits + allow.versions + s.homes + s.copies + s.boot + s.code) ≤ program_end
sizes_fit p allow s a k = below_top _ (plain_words_of p) (sizes_add p allow s a k) (plain_small p a.within_size)

-- ---- the regions

-- the address behind the words of the runtime
abbrev row_end : ℕ
row_end = fram_first + 2 * row_words

-- where each region begins, by the sizes in front of it
pub record Starts (allow : Allow) (s : Sizes) (r : Regions) : Type 0 where
  pub list : r.list.address ≡ row_end
  pub emits : r.emits.address ≡ row_end + 2 * (3 * allow.list)
  pub versions : r.versions.address ≡ row_end + 2 * (3 * allow.list + allow.emits)
  pub homes : r.homes.address ≡ row_end + 2 * (3 * allow.list + allow.emits + allow.versions)
  pub copies : r.copies.address ≡ row_end + 2 * (3 * allow.list + allow.emits + allow.versions + s.homes)
  pub boot : r.boot.address ≡ row_end + 2 * (3 * allow.list + allow.emits + allow.versions + s.homes + s.copies)
  pub commit : r.commit.address ≡ row_end + 2 * (3 * allow.list + allow.emits + allow.versions + s.homes + s.copies + s.boot)
  pub code : r.code.address ≡ fram_first + 2 * (row_words + commit_words + 3 * allow.list + allow.emits + allow.versions + s.homes + s.copies + s.boot)
  pub end : end_of r.code ≡ fram_first + 2 * (row_words + commit_words + 3 * allow.list + allow.emits + allow.versions + s.homes + s.copies + s.boot + s.code)

behind : (a from n m words : ℕ) → a ≡ from + 2 * words → from ≡ row_end + 2 * n → words ≡ m → a ≡ row_end + 2 * (n + m)
behind a from n m words e f g = omega (arith, e, f, g)

pub starts : (allow : Allow) (s : Sizes) (r : Regions) → AreRegions allow s r → Starts allow s r
starts allow s r k = record {
  list = list;
  emits = emits;
  versions = versions;
  homes = homes;
  copies = copies;
  boot = boot;
  commit = commit;
  code = omega (arith, code);
  end = let w = k.code_words in omega (arith, code, w);
}
  where
    list : r.list.address ≡ row_end
    list = k.list ∙ ap (λ a. a + 2 * row_words) k.row

    emits : r.emits.address ≡ row_end + 2 * (3 * allow.list)
    emits = let a = k.emits in let w = k.list_words in omega (arith, a, w, list)

    versions : r.versions.address ≡ row_end + 2 * (3 * allow.list + allow.emits)
    versions = behind r.versions.address r.emits.address (3 * allow.list) allow.emits r.emits.words k.versions emits k.emits_words

    homes : r.homes.address ≡ row_end + 2 * (3 * allow.list + allow.emits + allow.versions)
    homes = behind r.homes.address r.versions.address (3 * allow.list + allow.emits) allow.versions r.versions.words k.homes versions k.versions_words

    copies : r.copies.address ≡ row_end + 2 * (3 * allow.list + allow.emits + allow.versions + s.homes)
    copies = behind r.copies.address r.homes.address (3 * allow.list + allow.emits + allow.versions) s.homes r.homes.words k.copies homes k.homes_words

    boot : r.boot.address ≡ row_end + 2 * (3 * allow.list + allow.emits + allow.versions + s.homes + s.copies)
    boot = behind r.boot.address r.copies.address (3 * allow.list + allow.emits + allow.versions + s.homes) s.copies r.copies.words k.boot copies k.copies_words

    commit : r.commit.address ≡ row_end + 2 * (3 * allow.list + allow.emits + allow.versions + s.homes + s.copies + s.boot)
    commit = behind r.commit.address r.boot.address (3 * allow.list + allow.emits + allow.versions + s.homes + s.copies) s.boot r.boot.words k.commit boot
        k.boot_words

    code : r.code.address ≡ row_end + 2 * (3 * allow.list + allow.emits + allow.versions + s.homes + s.copies + s.boot + commit_words)
    code = behind r.code.address r.commit.address
        (3 * allow.list + allow.emits + allow.versions + s.homes + s.copies + s.boot) commit_words r.commit.words k.code commit k.commit_words

even : (a n : ℕ) → a ≡ row_end + 2 * n → a % 2 ≡ 0
even a n e = omega (arith, e)

even_from : (a n : ℕ) → a ≡ fram_first + 2 * n → a % 2 ≡ 0
even_from a n e = omega (arith, e)

-- each of the regions that the places of variables and tasks begin at is even
pub record AreEvenStarts (r : Regions) : Type 0 where
  pub versions : r.versions.address % 2 ≡ 0
  pub homes : r.homes.address % 2 ≡ 0
  pub copies : r.copies.address % 2 ≡ 0
  pub code : r.code.address % 2 ≡ 0

pub even_starts : (allow : Allow) (s : Sizes) (r : Regions) → AreRegions allow s r → AreEvenStarts r
even_starts allow s r k =
    let b = starts allow s r k in
    record {
      versions = even r.versions.address _ b.versions;
      homes = even r.homes.address _ b.homes;
      copies = even r.copies.address _ b.copies;
      code = even_from r.code.address _ b.code;
    }

-- right behind an address
right_behind : (end : ℕ) (r : Region) → r.address ≡ end → r.address % 2 ≡ 0 → IsBehind end r
right_behind end r e f = record { from = omega (arith, e); even = f }

-- the regions in order
pub chain : (runtime : Runtime) (allow : Allow) (s : Sizes) (r : Regions) (places : List VariablePlace) (layouts : List TaskPlace) → AreRegions allow s r
    → fram_first + 2 * (row_words + commit_words + 3 * allow.list + allow.emits + allow.versions + s.homes + s.copies + s.boot + s.code) ≤ program_end
    → AreInOrder fram_first (parts (map_with runtime r places layouts)) program_end
chain runtime allow s r places layouts k fits =
    let b = starts allow s r k in
    let e = even_starts allow s r k in
    let end = b.end in
    let row : IsBehind fram_first (row_region (map_with runtime r places layouts)) = right_behind fram_first _ k.row (ap (λ a. a % 2) k.row) in
    let list : IsBehind (r.row + 2 * row_words) r.list = right_behind _ r.list k.list (ap (λ a. a % 2) b.list) in
    let emits : IsBehind (end_of r.list) r.emits = right_behind _ r.emits k.emits (even r.emits.address _ b.emits) in
    let versions : IsBehind (end_of r.emits) r.versions = right_behind _ r.versions k.versions e.versions in
    let homes : IsBehind (end_of r.versions) r.homes = right_behind _ r.homes k.homes e.homes in
    let copies : IsBehind (end_of r.homes) r.copies = right_behind _ r.copies k.copies e.copies in
    let boot : IsBehind (end_of r.copies) r.boot = right_behind _ r.boot k.boot (even r.boot.address _ b.boot) in
    let commit : IsBehind (end_of r.boot) r.commit = right_behind _ r.commit k.commit (even r.commit.address _ b.commit) in
    let code : IsBehind (end_of r.commit) r.code = right_behind _ r.code k.code e.code in
    let high : end_of r.code ≤ program_end = omega (arith, end, fits) in
    (row, (list, (emits, (versions, (homes, (copies, (boot, (commit, (code, high)))))))))

-- ---- the variables

copies_are : (p : CheckedProgram) (written : List Bool) → length p.shared ≤ 256 → AreWritten p written → copy_sum written p.shared ≡ copy_words p
copies_are p written few h = written_sum copy_part p.shared p.shared written (is_written (summaries p) p.tasks) (copy_sum written p.shared) few refl h refl

versions_are : (p : CheckedProgram) (written : List Bool) → length p.shared ≤ 256 → AreWritten p written → version_sum written p.shared ≡ versions_of p
versions_are p written few h = written_sum version_part p.shared p.shared written (is_written (summaries p) p.tasks) (version_sum written p.shared) few refl
    h refl

fits_in : (a w n m total : ℕ) → a ≡ row_end + 2 * n → w ≡ m → fram_first + 2 * total ≤ program_end → n + m + row_words ≤ total → a + 2 * w ≤ program_end
fits_in a w n m total e f h k = omega (arith, e, f, h, k)

pub room : (p : CheckedProgram) (allow : Allow) (s : Sizes) (r : Regions) (written : List Bool) → length p.shared ≤ 256 → AreWritten p written
    → IsAllowed p allow → AreSizes p s → AreRegions allow s r
    → IsRoom p.shared written (record { home = r.homes.address; copy = r.copies.address; version = r.versions.address })
room p allow s r written few h a k g =
    let b = starts allow s r g in
    let fits = sizes_fit p allow s a k in
    let e = even_starts allow s r g in
    record {
      home = fits_in r.homes.address (home_words p.shared) (3 * allow.list + allow.emits + allow.versions) s.homes _ b.homes (sym k.homes) fits (omega arith);
      copy = fits_in r.copies.address (copy_sum written p.shared) (3 * allow.list + allow.emits + allow.versions + s.homes) s.copies _ b.copies
          (copies_are p written few h ∙ sym k.copies) fits (omega arith);
      version = fits_in r.versions.address (version_sum written p.shared) (3 * allow.list + allow.emits) allow.versions _ b.versions
          (versions_are p written few h ∙ sym a.versions) fits (omega arith);
      even_home = e.homes;
      even_copy = e.copies;
      even_version = e.versions;
    }

-- the place of each variable is of its kind
pub variables_are : (p : CheckedProgram) (written : List Bool) (free : Free) (places : List VariablePlace) → length p.shared ≤ 256 → AreWritten p written
    → ArePlaced p.shared written free places → AreVariables p places
variables_are p written free places few h k = record {
  count = k.count;
  each = λ i d place f g.
      let l = slice_get_within p.shared i d f in
      let its = k.each i d place f g in
      let kind = kind_at (slice_index_or written i false) d.extent its.0 in
      subst (λ w. IsPlaceOf w d.extent place) (h i (omega (arith, l, few))) (subst (IsPlaceOf (slice_index_or written i false) d.extent) (sym its.1) kind);
}

-- ---- the tasks

scalar_kind : (w : Bool) (e : Extent) (at : Free) (place : VariablePlace) → place ≡ place_at w e at → is_scalar e ≡ true → is_scalar_place place ≡ true
scalar_kind w (extent.Scalar _) at place h s = ap is_scalar_place h
scalar_kind w (extent.Long _) at place h s = ap is_scalar_place h
scalar_kind w (extent.Array n) at place h s = cc

some_scalar : (o : Option SharedDeclaration) → IsSomeAnd o (λ d. is_scalar d.extent ≡ true) → (d : SharedDeclaration) × (o ≡ Some d)
    × (is_scalar d.extent ≡ true)
some_scalar (Some d) h = (d, refl, h)
some_scalar None h = absurd h

some_and : (o : Option VariablePlace) (place : VariablePlace) → o ≡ Some place → is_scalar_place place ≡ true
    → IsSomeAnd o (λ place. is_scalar_place place ≡ true)
some_and o place e h = subst (λ o. IsSomeAnd o (λ place. is_scalar_place place ≡ true)) (sym e) h

private_place : (fs : List CheckedFunction) (shared : List SharedDeclaration) (code : CheckedBlock) (written : List Bool) (free : Free)
    (places : List VariablePlace)
    → ArePlaced shared written free places → (i : ℕ) → IsPrivateIn fs shared code i → IsScalarPlaceAt places i
private_place fs shared code written free places k i h =
    let d = some_scalar (slice_get shared i) h.scalar in
    let l = slice_get_within shared i d.0 d.1 in
    let count = k.count in
    let place = element places i (omega (arith, l, count)) in
    let its = k.each i d.0 place.0 d.1 place.1 in
    some_and (slice_get places i) place.0 place.1 (scalar_kind _ d.0.extent its.0 place.0 its.1 d.2)

pub scalars_placed : (p : CheckedProgram) (plans : List TaskPlanValue) (written : List Bool) (free : Free) (places : List VariablePlace) → IsPlan p plans
    → ArePlaced p.shared written free places
    → (k : ℕ) (plan : TaskPlanValue) → slice_get plans k ≡ Some plan → All (IsScalarPlaceAt places) plan.private_scalars
scalars_placed p plans written free places h placed k plan e =
    let l = slice_get_within plans k plan e in
    let count = h.count in
    let task = element p.tasks k (omega (arith, l, count)) in
    All-weaker (IsPrivateIn p.functions p.shared task.0.body) (IsScalarPlaceAt places)
    (private_place p.functions p.shared task.0.body written free places placed) plan.private_scalars
    (h.each k task.0 plan task.1 e).private_scalars.only

small : (t n rest w : ℕ) → t ≡ n → (rest + n) + 1 ≡ w → w ≤ 22000 → t ≤ 22000
small t n rest w e h k = omega (arith, e, h, k)

pub code_small : (p : CheckedProgram) (allow : Allow) (s : Sizes) → IsAllowed p allow → AreSizes p s → total (body_words (summaries p) p.shared) p.tasks ≤ 22000
code_small p allow s a k = small _ s.code _ (plain_words_of p) (sym k.code) (sizes_add p allow s a k) (plain_small p a.within_size)

code_room_by : (a t n rest : ℕ) → a ≡ fram_first + 2 * rest → t ≡ n → fram_first + 2 * (rest + n) ≤ program_end → a + 2 * t ≤ program_end
code_room_by a t n rest e f h = omega (arith, e, f, h)

pub code_room : (p : CheckedProgram) (allow : Allow) (s : Sizes) (r : Regions) → IsAllowed p allow → AreSizes p s → AreRegions allow s r
    → r.code.address + 2 * total (body_words (summaries p) p.shared) p.tasks ≤ program_end
code_room p allow s r a k g = code_room_by r.code.address _ s.code _ (starts allow s r g).code (sym k.code) (sizes_fit p allow s a k)

-- ---- the whole

words_end : (a w n m : ℕ) → w ≡ n → n ≡ m → a + 2 * m ≡ a + 2 * w
words_end a w n m e f = omega (arith, e, f)

-- the sizes, the regions, the places of variables and the layouts of tasks as they are made for a source
pub record IsPlaced (p : CheckedProgram) (allow : Allow) (plans : List TaskPlanValue) (s : Sizes) (r : Regions) (written : List Bool)
    (places : List VariablePlace) (layouts : List TaskPlace) : Type 0 where
  pub placed : StandsWhereItMay p
  pub few : length p.shared ≤ 256
  pub written_so : AreWritten p written
  pub allowed : IsAllowed p allow
  pub sizes : AreSizes p s
  pub regions : AreRegions allow s r
  pub variables : ArePlaced p.shared written (record { home = r.homes.address; copy = r.copies.address; version = r.versions.address }) places
  pub tasks : ArePlacedTasks (known_functions p) p.shared places p.tasks plans r.code.address layouts

pub laid_out : (runtime : Runtime) (p : CheckedProgram) (allow : Allow) (plans : List TaskPlanValue) (s : Sizes) (r : Regions) (written : List Bool)
    (places : List VariablePlace) (layouts : List TaskPlace) → IsPlaced p allow plans s r written places layouts → IsLaidOut (map_with runtime r places layouts)
laid_out runtime p allow plans s r written places layouts made = record {
  chain = chain runtime allow s r places layouts g (sizes_fit p allow s made.allowed k);
  list = g.list_words ∙ ap (λ n. list_entry_room * n) (sym g.entries);
  homes = subst (λ end. AreInOrder r.homes.address (map home_region places) end)
      (words_end r.homes.address r.homes.words s.homes (home_words p.shared) g.homes_words k.homes) made.variables.homes;
  copies = subst (λ end. AreInOrder r.copies.address (flat_map copy_regions places) end)
      (words_end r.copies.address r.copies.words s.copies (copy_sum written p.shared) g.copies_words
      (k.copies ∙ sym (copies_are p written made.few made.written_so))) made.variables.copies;
  versions = subst (λ end. AreInOrder r.versions.address (flat_map version_regions places) end)
      (words_end r.versions.address r.versions.words allow.versions (version_sum written p.shared) g.versions_words
      (made.allowed.versions ∙ sym (versions_are p written made.few made.written_so))) made.variables.versions;
  code = subst (λ end. AreInOrder r.code.address (flat_map code_regions layouts) end)
      (words_end r.code.address r.code.words s.code (total (body_words (summaries p) p.shared) p.tasks) g.code_words k.code) made.tasks.code;
  privates = made.tasks.privates;
}
  where
    k : AreSizes p s
    k = made.sizes

    g : AreRegions allow s r
    g = made.regions

size_is : (e n w : ℕ) → e ≡ fram_first + 2 * n → n + 1 ≡ w → e + 2 ≤ fram_first + 2 * w
size_is e n w h k = omega (arith, h, k)

pub whole : (p : CheckedProgram) (allow : Allow) (plans : List TaskPlanValue) (s : Sizes) (r : Regions) (written : List Bool) (places : List VariablePlace)
    (layouts : List TaskPlace) → IsPlaced p allow plans s r written places layouts → IsLayout p allow plans (map_with (runtime_for Redo p) r places layouts)
whole p allow plans s r written places layouts made =
    let k = made.sizes in
    let g = made.regions in
    record {
      placed = made.placed;
      runtime = refl;
      rules = laid_out (runtime_for Redo p) p allow plans s r written places layouts made;
      list = g.entries;
      emits = g.emits_words;
      versions = g.versions_words;
      homes = g.homes_words ∙ k.homes;
      copies = g.copies_words ∙ k.copies;
      variables = variables_are p written _ places made.few made.written_so made.variables;
      boot = g.boot_words ∙ k.boot;
      commit = g.commit_words;
      code = g.code_words ∙ k.code;
      tasks = record { count = made.tasks.count; each = made.tasks.each };
      size = size_is (end_of r.code) _ (plain_words_of p) (starts allow s r g).end (sizes_add p allow s made.allowed k);
    }
