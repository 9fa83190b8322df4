-- A value put into a table; the table of the types of shared variables.
use Rattle.std.proofs.Common.{◌≡◌, ◌∙◌, ℕ, ◌-◌, ◌<◌, ◌≤◌, Bool, true, false, List, ◌∷◌, length, get_or, drop, Option, Some, None, refl, sym, ap, subst}
use Rattle.std.proofs.Math.Seq.{drop-length}
use denote.Ref.{Bor}
use Rattle.std.specs.BTreeMap.{BTreeMap}
use Rattle.std.specs.Prelude.{cond}
use Rattle.std.specs.Option.{option_or}
use Rattle.std.specs.Str.{bytes_eq}
use Rattle.task_ast.proofs.Interface.{drop_back}
use Rattle.task_ast.specs.declared.WordType.{WordType}
use Rattle.task_ast.specs.declared.SharedDeclaration.{SharedDeclaration}
use Rattle.task_check.specs.Scope.{text_of, if_named}
use Rattle.task_check.specs.SharedTypes.{type_in}
use Rattle.task_check.specs.Tables.{found, HasTypes}

pub put : {A : Type 0} (b : Bool) (v : A) (r : Option A) → cond b (Some v) r ≡ option_or (if_named b (Some v)) r
put true v r = refl
put false v r = refl

pub none_named : {A : Type 0} (b : Bool) (r : Option A) → option_or (if_named b None) r ≡ r
none_named true r = refl
none_named false r = refl

pub named_none : {A : Type 0} (b : Bool) (r : Option A) → option_or r (if_named b None) ≡ r
named_none true None = refl
named_none false None = refl
named_none true (Some x) = refl
named_none false (Some x) = refl

-- ---- the types of shared variables

pub types_none : (source : List ℕ) (shared : List SharedDeclaration) (table : BTreeMap (Bor (List ℕ)) WordType) → ((q : List ℕ) → found table q ≡ None)
    → HasTypes source (drop (length shared) shared) table
types_none source shared table none = subst (λ ds. HasTypes source ds table) (sym (drop-length shared)) none

pub types_back : (source : List ℕ) (shared : List SharedDeclaration) (i : ℕ) (d : SharedDeclaration) → 0 < i → i ≤ length shared
    → d ≡ get_or shared (i - 1) d → (table new : BTreeMap (Bor (List ℕ)) WordType) → HasTypes source (drop i shared) table
    → (t : List ℕ) → t ≡ text_of source d.name
    → ((q : List ℕ) → found new q ≡ option_or (if_named (bytes_eq t q) (Some d.word_type)) (found table q))
    → HasTypes source (drop (i - 1) shared) new
types_back source shared i d pos within at table new has t ts put =
    subst (λ ds. HasTypes source ds new) (sym (drop_back shared i d pos within at)) next
  where
    next : HasTypes source (d ∷ drop i shared) new
    next q = put q ∙ (ap (λ r. option_or (if_named (bytes_eq t q) (Some d.word_type)) r) (has q)
        ∙ ap (λ t. option_or (if_named (bytes_eq t q) (Some d.word_type)) (type_in source q (drop i shared))) ts)
