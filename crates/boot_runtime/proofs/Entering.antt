-- The rungs and stubs of tasks whose private scalars are copied.
use Rattle.std.proofs.Common.{◌≡◌, ℕ, zero, suc, ◌+◌, ◌*◌, List, [], ◌∷◌, length, map, refl, ap, ◌∙◌, arith}
use Rattle.std.specs.List.{All}
use Rattle.std.proofs.lemmas.List.Elements.{All-nil, All-cons, All-head, All-tail}
use Rattle.runtime_code.specs.fram_board.Effects.{Store}
use Rattle.runtime_code.specs.machine_effects.World.{put}
use Rattle.runtime_code.specs.machine_effects.Inputs.{Inputs}
use Rattle.runtime_code.specs.machine_effects.Machine.{Code}
use Rattle.runtime_code.specs.code_forms.Forms.{Core, Move, Branch, Fram, ToFram}
use Rattle.runtime_code.specs.code_forms.Code.{IsTidy, forms_bytes, anywhere}
use Rattle.runtime_code.proofs.code_forms.Interface.{forms_bytes-append}
use Rattle.runtime_code.specs.runtime_effects.Places.{CopyPair}
use Rattle.runtime_code.specs.runtime_effects.Stages.{copied_in}
use Rattle.runtime_code.specs.runtime_effects.Needs.{ArePairWords}
use Rattle.runtime_code.specs.Counted.{if_any}
use Rattle.runtime_code.proofs.Interface.{core_at, from_there, then_on, so_ends, recounted, nothing, form_comes, rung_in, IsRung, Deed, Does}
use Rattle.boot_runtime.specs.Listing.{TaskEntry, entry_at, copies_in, stub_to, stub, stub_bytes, rung_for}
use Rattle.boot_runtime.specs.Laws.{IsEntered}

copies_bytes : (xs : List CopyPair) → forms_bytes (copies_in xs) ≡ 6 * length xs
copies_bytes [] = refl
copies_bytes (x ∷ xs) = let e = copies_bytes xs in omega (arith, e)

pub copies_count : (xs : List CopyPair) → length (copies_in xs) ≡ length xs
copies_count [] = refl
copies_count (x ∷ xs) = ap suc (copies_count xs)

stub_to_bytes : (code : ℕ) (xs : List CopyPair) → forms_bytes (stub_to code xs) ≡ 6 * length xs + if_any (length xs) 4
stub_to_bytes code [] = refl
stub_to_bytes code (x ∷ xs) = forms_bytes-append (copies_in (x ∷ xs)) (Branch code ∷ []) ∙ ap (λ n. n + 4) (copies_bytes (x ∷ xs))

pub stub_size : (t : TaskEntry) → forms_bytes (stub t) ≡ stub_bytes t
stub_size t = stub_to_bytes t.code t.privates

pub are_rungs : (ts : List TaskEntry) → All IsEntered ts → All IsRung (map rung_for ts)
are_rungs [] h = All-nil IsRung
are_rungs (t ∷ ts) h =
    All-cons IsRung (rung_for t) (map rung_for ts) (record { size = stub_size t; even = (All-head IsEntered t ts h).even })
    (are_rungs ts (All-tail IsEntered t ts h))

pub rung_is : (ts : List TaskEntry) (k : ℕ) → rung_in (map rung_for ts) k ≡ rung_for (entry_at ts k)
rung_is [] k = refl
rung_is (t ∷ ts) zero = refl
rung_is (t ∷ ts) (suc k) = rung_is ts k

-- the private scalars are copied
abbrev pub copying : List CopyPair → (ℕ → ℕ) → Inputs → Deed
copying xs f l = record { memory = f; inputs = l; effects = copied_in xs f; steps = length xs; cycles = 6 * length xs }

pub copies_done : (code : Code) (tidy : IsTidy code) (sp : ℕ) (xs : List CopyPair) (f : ℕ → ℕ) (l : Inputs) → All ArePairWords xs
    → Does code sp (copies_in xs) (copying xs f l)
copies_done code tidy sp [] f l ok p u h at = nothing (anywhere code) u _ (record { pc = at.pc ∙ omega arith; sp = at.sp; fram = at.fram; inputs = at.inputs })
copies_done code tidy sp (x ∷ xs) f l ok p u h at =
    let g = put f x.copy (f x.home) in
    let words = All-head ArePairWords x xs ok in
    let s = core_at p f l u in
    let next : Core = record s { pc = p + 6; fram = g } in
    from_there u (record { pc = at.pc; fram = at.fram; inputs = at.inputs }) (recounted (omega arith) (omega arith) (so_ends
    (then_on (form_comes (anywhere code) tidy (Move (Fram x.home) (ToFram x.copy)) s next (Store x.copy (f x.home) ∷ []) 6 (λ v. v ≡ next) h.0
    (words.home, words.copy) refl refl)
    (copies_done code tidy sp xs g l (All-tail ArePairWords x xs ok) (p + 6) next h.1 (record { pc = refl; sp = at.sp; fram = refl; inputs = refl })))
    (λ v k. record { pc = k.pc ∙ omega arith; sp = k.sp; fram = k.fram; inputs = k.inputs })))
