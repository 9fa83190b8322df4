-- Code can be made of the programs of a source whose code has its places.
use Rattle.std.proofs.Common.{◌≡◌, ℕ, suc, ◌<◌, List, [], ◌∷◌, ◌++◌, length, map, Some, refl, sym, ap, ◌∙◌, subst, arith}
use Rattle.std.specs.Prelude.{slice_get, slice_index_or, All}
use Rattle.std.specs.List.{flat_map}
use Rattle.std.proofs.lemmas.List.{length-map}
use Rattle.std.proofs.lemmas.List.Elements.{All-nil, All-cons, All-head, All-tail}
use Rattle.task_ast.specs.Paths.{CheckedBlock, CheckedFunction, CheckedTask}
use Rattle.memory_map.specs.declared.place.Region.{Region}
use Rattle.memory_map.specs.declared.place.RoutinePlace.{RoutinePlace}
use Rattle.memory_map.specs.MemoryMap.{MemoryMap, TaskPlace}
use Rattle.memory_map.specs.Places.{AreInOrder, code_regions, end_of}
use Rattle.memory_map.specs.Spots.{Places, routine_among}
use Rattle.memory_map.proofs.Interface.{in_order_end}
use Rattle.array_versions.specs.Program.{Program, nothing, filled}
use Rattle.array_versions.specs.TaskPrograms.{TaskPrograms}
use Rattle.lower.specs.Lowered.{routine_bodies, task_places, lowered_task, lowered_tasks, bare_routine, bare_task, bare_tasks}
use Rattle.lower.proofs.Interface.{routines_seen}
use Rattle.linked_code.specs.Linked.{RoutinesFit, ProgramsFit}
use Rattle.link_image.specs.Needs.{IsShort, HasFewLocals, TaskHasFewLocals, TaskIsEmitted, TasksAreEmitted, HasOwnPlaces}
use Rattle.link_image.proofs.Bare.{bare_is, bare_low, bare_words, no_bodies, routine_is}

-- programs whose code has its places are short
routines_short : (from : ℕ) (rs : List RoutinePlace) (ps : List Program) (others : List Region) (end : ℕ)
    → AreInOrder from (map (λ r. r.code) rs ++ others) end → end < 0x10000 → RoutinesFit rs ps
    → (length rs ≡ length ps) × All IsShort ps × ((mid : ℕ) × AreInOrder mid others end)
routines_short from [] [] others end o l f = (refl, All-nil IsShort, (from, o))
routines_short from [] (p ∷ ps) others end o l f = absurd f
routines_short from (r ∷ rs) [] others end o l f = absurd f
routines_short from (r ∷ rs) (p ∷ ps) others end o l f =
    let rest = routines_short (end_of r.code) rs ps others end o.1 l f.1 in
    let high = in_order_end (end_of r.code) (map (λ r. r.code) rs ++ others) end o.1 in
    let w = f.0 in
    let count = rest.0 in
    (omega (arith, count), All-cons IsShort p ps (omega (arith, high, w, l)) rest.1, rest.2)

pub each_emitted : (from : ℕ) (ts : List TaskPlace) (ps : List TaskPrograms) (end : ℕ) → AreInOrder from (flat_map code_regions ts) end → end < 0x10000
    → ProgramsFit ts ps → All TaskHasFewLocals ps → TasksAreEmitted ts ps
each_emitted from [] ps end o l f few = tt
each_emitted from (t ∷ ts) [] end o l f few = tt
each_emitted from (t ∷ ts) (p ∷ ps) end o l f few =
    let there = routines_short (end_of t.code) t.routines p.routines (flat_map code_regions ts) end o.1 l f.0.routines in
    let high = in_order_end (end_of t.code) (map (λ r. r.code) t.routines ++ flat_map code_regions ts) end o.1 in
    let w = f.0.own in (
      record {
        count = there.0;
        short = omega (arith, high, w, l);
        shorts = there.1;
        locals = All-head TaskHasFewLocals p ps few;
      },
      each_emitted there.2.0 ts ps end there.2.1 l f.1 (All-tail TaskHasFewLocals p ps few),
    )

-- ---- of bare programs

short_is : (q : Program) → IsShort q → IsShort (filled no_bodies q)
short_is q h = let w = bare_words q in omega (arith, w, h)

-- what holds of a program, whatever stands in its calls, holds of the bare programs of functions
bare_all : (P : Program → Type 0) → ((q : Program) → P q → P (filled no_bodies q)) → (p : Places) (fs : List CheckedFunction) (rs : List RoutinePlace)
    → ((j : ℕ) (r : RoutinePlace) → slice_get rs j ≡ Some r → routine_among p.routines r.function ≡ Some r)
    → All P (map (λ r. slice_index_or (routine_bodies p fs) r.function nothing) rs) → All P (map (bare_routine p fs) rs)
bare_all P same p fs [] own h = All-nil P
bare_all P same p fs (r ∷ rs) own h =
    let its : Program = slice_index_or (routine_bodies p fs) r.function nothing in
    let others = map (λ (q : RoutinePlace). slice_index_or (routine_bodies p fs) q.function nothing) rs in
    All-cons P (bare_routine p fs r) (map (bare_routine p fs) rs) (subst P (routine_is p fs r (own 0 r refl)) (same its (All-head P its others h)))
    (bare_all P same p fs rs (λ j q at. own (suc j) q at) (All-tail P its others h))

task_emitted : (fs : List CheckedFunction) (l : MemoryMap) (t : TaskPlace) (body : CheckedBlock) → HasOwnPlaces t → TaskIsEmitted t (lowered_task fs l t body)
    → TaskIsEmitted t (bare_task fs l t body)
task_emitted fs l t body own h =
    let p = task_places fs l t body in
    let bodies = routine_bodies p fs in
    let seen = routines_seen l.runtime.logging t in
    let its : (j : ℕ) (r : RoutinePlace) → slice_get p.routines j ≡ Some r → routine_among p.routines r.function ≡ Some r =
    λ j r at. ap (λ rs. routine_among rs r.function) seen ∙ own j r (sym (ap (λ rs. slice_get rs j) seen) ∙ at) in
    let many = length-map p.routines (bare_routine p fs) in
    let same = ap length seen in
    record {
      count = omega (arith, many, same);
      short = subst IsShort (bare_is p bodies body) (short_is _ h.short);
      shorts = bare_all IsShort short_is p fs p.routines its h.shorts;
      locals = record {
        own = subst HasFewLocals (bare_is p bodies body) (bare_low _ h.locals.own);
        routines = bare_all HasFewLocals bare_low p fs p.routines its h.locals.routines;
      };
    }

pub bare_emitted : (fs : List CheckedFunction) (l : MemoryMap) (tasks : List CheckedTask) (ts : List TaskPlace) → All HasOwnPlaces ts
    → TasksAreEmitted ts (lowered_tasks fs l tasks ts) → TasksAreEmitted ts (bare_tasks fs l tasks ts)
bare_emitted fs l tasks [] own h = tt
bare_emitted fs l [] (t ∷ ts) own h = tt
bare_emitted fs l (task ∷ tasks) (t ∷ ts) own h = (
  task_emitted fs l t task.body (All-head HasOwnPlaces t ts own) h.0,
  bare_emitted fs l tasks ts (All-tail HasOwnPlaces t ts own) h.1,
)

pub bare_count : (fs : List CheckedFunction) (l : MemoryMap) (tasks : List CheckedTask) (ts : List TaskPlace) → length ts ≡ length tasks
    → length ts ≡ length (bare_tasks fs l tasks ts)
bare_count fs l [] [] e = refl
bare_count fs l [] (t ∷ ts) e = absurd (omega (arith, e))
bare_count fs l (task ∷ tasks) [] e = refl
bare_count fs l (task ∷ tasks) (t ∷ ts) e = let rest = bare_count fs l tasks ts (omega (arith, e)) in omega (arith, rest)
