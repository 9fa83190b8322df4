-- What a call leaves of the files and of a sink.
use Rattle.std.specs.Prelude.{◌≡◌, ℕ, List, Option, Some, None}
use Rattle.alp_io.specs.Count.{Rose}
use Rattle.alp_io.specs.Shelf.{Files, Counts, Told, Sets, ChangesOnly}

-- what a shelf told of its files and how often its calls had failed, before the call and after it
pub record Shelved : Type 0 where
  pub old : Option Files
  pub new : Option Files
  pub counts_old : Counts
  pub counts_new : Counts

-- what a sink held and how often it had failed, before the call and after it
pub record Written : Type 0 where
  pub old : Option (List ℕ)
  pub new : Option (List ℕ)
  pub faults_old : ℕ
  pub faults_new : ℕ

-- the files are as they were
abbrev pub Stands : Shelved → Type 0
Stands shelf = shelf.new ≡ shelf.old

-- the sink gained nothing
abbrev pub IsSilent : Written → Type 0
IsSilent out = out.new ≡ out.old

-- this holds beside any files that are as they were: the call has none
abbrev pub WhereStands : (Shelved → Type 0) → Type 0
WhereStands P = (shelf : Shelved) → Stands shelf → P shelf

-- this holds beside any sink that gained nothing: the call has none
abbrev pub WhereSilent : (Written → Type 0) → Type 0
WhereSilent P = (out : Written) → IsSilent out → P out

-- the file stands under the name, and all others as before; where nothing is put, all stand as before
abbrev pub IsPut : Option (List ℕ) → Option (List ℕ) → Option Files → Option Files → Type 0
IsPut (Some name) (Some bytes) old new = Told old new (Sets name bytes)
IsPut (Some name) None old new = new ≡ old
IsPut None (Some bytes) old new = ⊥
IsPut None None old new = new ≡ old

-- a put failed: as far as the files are told, the one name may hold anything or nothing, and all others stand as before
pub record IsUnput (name : List ℕ) (shelf : Shelved) : Type 0 where
  pub others : Told shelf.old shelf.new (ChangesOnly name)
  pub failed : Rose shelf.counts_old.failed_puts shelf.counts_new.failed_puts
