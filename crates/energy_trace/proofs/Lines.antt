-- What a line says, by cases.
use Rattle.std.proofs.Common.{◌≡◌, ◌==◌, ℕ, List, [], ◌∷◌, Bool, true, false, if◌then◌else◌, Option, Some, None, codes, refl, subst}
use Rattle.std.specs.Str.{bytes_eq}
use Rattle.text_parts.specs.Lengths.{before}
use Rattle.text_parts.specs.Fields.{fields}
use Rattle.energy_trace.specs.declared.charge.Charge.{Charge}
use Rattle.energy_trace.specs.declared.charge.ChargeKind.{ChargeKind}
use Rattle.energy_trace.specs.declared.charge.ChargeKind.TheVariants as kind
use Rattle.energy_trace.specs.TraceValue.{Event}
use Rattle.energy_trace.specs.Line.{LineMeaning, nothing, charge, readings, event, line_says, fields_say, charge_of, readings_of, event_of, ◌>>?◌}

said_by : (P : LineMeaning → Type 0) {A : Type 0} (give : A → LineMeaning) (o : Option A) (m : LineMeaning) → ((a : A) → o ≡ Some a → P (give a))
    → (o >>? λ a. Some (give a)) ≡ Some m → P m
said_by P give None m f h = cc
said_by P give (Some a) m f h = let same : give a ≡ m = cc in subst P same (f a refl)

word_by : (P : LineMeaning → Type 0) (x y z v : Bool) (rest : List (List ℕ)) (m : LineMeaning)
    → ((k : ChargeKind) (c : Charge) → charge_of k rest ≡ Some c → P (charge c)) → ((ws : List ℕ) → readings_of rest ≡ Some ws → P (readings ws))
    → ((e : Event) → event_of rest ≡ Some e → P (event e))
    → (if x then charge_of kind.Cycles rest >>? (λ c. Some (charge c)) else (if y then charge_of kind.Steps rest >>? (λ c. Some (charge c))
    else (if z then readings_of rest >>? (λ ws. Some (readings ws)) else (if v then event_of rest >>? (λ e. Some (event e)) else None)))) ≡ Some m → P m
word_by P true y z v rest m c r e h = said_by P charge (charge_of kind.Cycles rest) m (c kind.Cycles) h
word_by P false true z v rest m c r e h = said_by P charge (charge_of kind.Steps rest) m (c kind.Steps) h
word_by P false false true v rest m c r e h = said_by P readings (readings_of rest) m r h
word_by P false false false true rest m c r e h = said_by P event (event_of rest) m e h
word_by P false false false false rest m c r e h = cc

fields_by : (P : LineMeaning → Type 0) (fs : List (List ℕ)) (m : LineMeaning) → P nothing
    → ((k : ChargeKind) (fs : List (List ℕ)) (c : Charge) → charge_of k fs ≡ Some c → P (charge c))
    → ((fs : List (List ℕ)) (ws : List ℕ) → readings_of fs ≡ Some ws → P (readings ws))
    → ((fs : List (List ℕ)) (e : Event) → event_of fs ≡ Some e → P (event e)) → fields_say fs ≡ Some m → P m
fields_by P [] m n c r e h = let same : nothing ≡ m = cc in subst P same n
fields_by P (word ∷ rest) m n c r e h =
    word_by P (bytes_eq word (codes "c")) (bytes_eq word (codes "s")) (bytes_eq word (codes "r")) (bytes_eq word (codes "e")) rest m
    (λ k. c k rest) (r rest) (e rest) h

-- what holds of each charge, of readings and of each event that fields are, and of a line that says nothing, holds of what a line says
pub line_by : (P : LineMeaning → Type 0) (l : List ℕ) (m : LineMeaning) → P nothing
    → ((k : ChargeKind) (fs : List (List ℕ)) (c : Charge) → charge_of k fs ≡ Some c → P (charge c))
    → ((fs : List (List ℕ)) (ws : List ℕ) → readings_of fs ≡ Some ws → P (readings ws))
    → ((fs : List (List ℕ)) (e : Event) → event_of fs ≡ Some e → P (event e)) → line_says l ≡ Some m → P m
unfolding line_says
line_by P l m n c r e h = fields_by P (fields (before (λ b. b == 35) l)) m n c r e h
