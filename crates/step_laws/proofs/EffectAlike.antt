-- Two buses that answer alike carry any instruction alike, up to an access that the second one refuses.
use Rattle.std.proofs.Common.{◌≡◌, inl, inr, ℕ, Option, Some, None, refl, sym, subst, Bool, true, false}
use Rattle.std.specs.Prelude.{Result, Ok, Err}
use Rattle.msp_step.specs.alp_words.declared.Width.{Width}
use Rattle.msp_step.specs.alp_words.declared.Width.TheVariants.{Word}
use Rattle.msp_step.specs.alp_words.declared.Flags.{Flags}
use Rattle.msp_step.specs.msp_isa.declared.operands.Operand.{Operand}
use Rattle.msp_step.specs.msp_isa.declared.operands.Src.{Src}
use Rattle.msp_step.specs.msp_isa.declared.operands.Src.TheVariants as src
use Rattle.msp_step.specs.msp_isa.declared.operands.Dst.{Dst}
use Rattle.msp_step.specs.msp_isa.declared.instructions.TwoOp.{TwoOp}
use Rattle.msp_step.specs.msp_isa.declared.instructions.OneOp.{OneOp}
use Rattle.msp_step.specs.msp_isa.declared.instructions.OneOp.TheVariants as one
use Rattle.msp_step.specs.msp_isa.declared.instructions.Instr.{Instr}
use Rattle.msp_step.specs.msp_isa.declared.instructions.Instr.TheVariants as instr
use Rattle.msp_step.specs.declared.bus.Refused.{Refused}
use Rattle.msp_step.specs.declared.bus.Refused.TheVariants as refused
use Rattle.msp_step.specs.declared.operand.Location.{Location}
use Rattle.msp_step.specs.declared.operand.Location.TheVariants.{Register, Memory}
use Rattle.msp_step.specs.Registers.{Registers, with_register}
use Rattle.msp_step.specs.Access.{BusModel, Access, Completed, Faulted, then_do, read_answer, write_answer, read_at, write_at}
use Rattle.msp_step.specs.Effect.{word_sum, Operated, load, store, source, operand_location, incremented, destination_operand, finish, after_source}
use Rattle.msp_step.specs.Effect.{two_operand_effect, with_flags, operated, flags_of, reads_destination, writes_destination, read_modify_write, rotated}
use Rattle.msp_step.specs.Effect.{shifted, exchanged, sign_extended, push_effect, call_effect, reti_effect}
use Rattle.msp_step.specs.Step.{effect, one_operand_effect}
use Rattle.step_laws.specs.Alike.{AlikeUnless, ReadAlike, WrittenAlike, AnswerAlikeUnless, SameView, IsOdd, CarriesAlike}

module _ (S T : Type 0) (b : BusModel S) (c : BusModel T) (Odd : Refused → ℕ → Type 0) (R : S → T → Type 0) (alike : AnswerAlikeUnless Odd b c R) where
  abbrev Like : {A : Type 0} → Access S A → Access T A → Type 0
  Like x y = AlikeUnless Odd R x y

  -- an odd refusal of the second, whatever the first gave
  odd_alike : {A : Type 0} (x : Access S A) (e : Refused) (a : ℕ) (t : T) → Odd e a → Like x (Faulted e a t)
  odd_alike (Completed v s) e a t odd = odd
  odd_alike (Faulted f d s) e a t odd = inl odd

  then_alike : {A B : Type 0} (x : Access S A) (y : Access T A) (f : A → S → Access S B) (g : A → T → Access T B) → Like x y
      → ((a : A) (s : S) (t : T) → R s t → Like (f a s) (g a t)) → Like (then_do x f) (then_do y g)
  then_alike (Completed a s) (Completed a' t) f g h k = subst (λ z. Like (f a s) (g z t)) h.0 (k a s t h.1)
  then_alike (Faulted e a s) (Faulted e' a' t) f g h k = h
  then_alike (Completed a s) (Faulted e' a' t) f g h k = odd_alike (f a s) e' a' t h
  then_alike (Faulted e a s) (Completed a' t) f g h k = elim h [ ]

  same_answer : (p q : Result ℕ Refused) (a : ℕ) (s s' : S) (t t' : T) → p ≡ q → R s t → ((v : ℕ) → q ≡ Ok v → R s' t')
      → Like (read_answer p a s s') (read_answer q a t t')
  same_answer (Ok v) (Ok v') a s s' t t' e h k = let same : v ≡ v' = cc in (same, k v' refl)
  same_answer (Err r) (Err r') a s s' t t' e h k = let same : r ≡ r' = cc in inr (same, refl, h)
  same_answer (Ok v) (Err r') a s s' t t' e h k = absurd cc
  same_answer (Err r) (Ok v') a s s' t t' e h k = absurd cc

  answer_alike : (p q : Result ℕ Refused) (a : ℕ) (s s' : S) (t t' : T) → ReadAlike Odd a p q → R s t → ((v : ℕ) → q ≡ Ok v → R s' t')
      → Like (read_answer p a s s') (read_answer q a t t')
  answer_alike p q a s s' t t' (inl e) h k = same_answer p q a s s' t t' e h k
  answer_alike p q a s s' t t' (inr (e, refused, odd)) h k =
      let P : Result ℕ Refused → Type 0 = λ z. Like (read_answer p a s s') (read_answer z a t t') in
      subst P (sym refused) (odd_alike (read_answer p a s s') e a t odd)

  read_alike : (a : ℕ) (w : Width) (s : S) (t : T) → R s t → Like (read_at b a w s) (read_at c a w t)
  read_alike a w s t h = answer_alike (b.reads s a w) (c.reads t a w) a s (b.after_read s a w) t (c.after_read t a w) (alike.reads s t a w h) h
      (λ v e. alike.after s t a w v h e)

  wrote_alike : {A : Type 0} (p : Option S) (q : Option T) (a : ℕ) (s : S) (t : T) (x : A) → R s t → WrittenAlike (Odd refused.Bus a) R p q
      → Like (write_answer p a s x) (write_answer q a t x)
  wrote_alike (Some s') (Some t') a s t x h k = (refl, k)
  wrote_alike None None a s t x h k = inr (refl, refl, h)
  wrote_alike (Some s') None a s t x h k = k
  wrote_alike None (Some t') a s t x h k = elim k [ ]

  write_alike : {A : Type 0} (a : ℕ) (w : Width) (v : ℕ) (x : A) (s : S) (t : T) → R s t → Like (write_at b a w v x s) (write_at c a w v x t)
  write_alike a w v x s t h = wrote_alike (b.writes s a w v) (c.writes t a w v) a s t x h (alike.writes s t a w v h)

  load_alike : (r : Registers) (w : Width) (l : Location) (s : S) (t : T) → R s t → Like (load b r w l s) (load c r w l t)
  load_alike r w (Register n) s t h = (refl, h)
  load_alike r w (Memory a) s t h = read_alike a w s t h

  store_alike : (r : Registers) (w : Width) (l : Location) (v : ℕ) (s : S) (t : T) → R s t → Like (store b r w l v s) (store c r w l v t)
  store_alike r w (Register n) v s t h = (refl, h)
  store_alike r w (Memory a) v s t h = write_alike a w v (r, Some (a, v)) s t h

  source_alike : (r : Registers) (w : Width) (x : Src) (s : S) (t : T) → R s t → Like (source b r w x s) (source c r w x t)
  source_alike r w (src.Operand p) s t h = then_alike (load b r w (operand_location r (r 0) p) s) (load c r w (operand_location r (r 0) p) t)
      (λ v u. Completed (v, incremented r w p) u) (λ v u. Completed (v, incremented r w p) u) (load_alike r w (operand_location r (r 0) p) s t h)
      (λ v s' t' k. (refl, k))
  source_alike r w (src.Immediate n) s t h = (refl, h)
  source_alike r w (src.Constant k) s t h = (refl, h)

  destination_alike : (q : Bool) (r : Registers) (w : Width) (l : Location) (s : S) (t : T) → R s t
      → Like (destination_operand q b r w l s) (destination_operand q c r w l t)
  destination_alike true r w l s t h = load_alike r w l s t h
  destination_alike false r w l s t h = (refl, h)

  finish_alike : (q : Bool) (r : Registers) (w : Width) (l : Location) (v : ℕ) (s : S) (t : T) → R s t → Like (finish q b r w l v s) (finish q c r w l v t)
  finish_alike true r w l v s t h = store_alike r w l v s t h
  finish_alike false r w l v s t h = (refl, h)

  after_alike : (op : TwoOp) (w : Width) (l : Location) (v : ℕ) (r : Registers) (s : S) (t : T) → R s t
      → Like (after_source b op w l v r s) (after_source c op w l v r t)
  after_alike op w l v r s t h = then_alike (destination_operand (reads_destination op) b r w l s) (destination_operand (reads_destination op) c r w l t) _ _
      (destination_alike (reads_destination op) r w l s t h)
      (λ d s' t' k. finish_alike (writes_destination op) (with_flags r (operated op w d v (flags_of (r 2))).flags) w l
      (operated op w d v (flags_of (r 2))).value s' t' k)

  two_alike : (op : TwoOp) (w : Width) (x : Src) (d : Dst) (r : Registers) (s : S) (t : T) → R s t
      → Like (two_operand_effect b op w x d r s) (two_operand_effect c op w x d r t)
  two_alike op w x d r s t h = then_alike (source b (with_register r 0 (word_sum (r 0) 2)) w x s) (source c (with_register r 0 (word_sum (r 0) 2)) w x t) _ _
      (source_alike (with_register r 0 (word_sum (r 0) 2)) w x s t h) (λ y s' t' k. after_alike op w _ y.0 _ s' t' k)

  modification_alike : (f : Width → ℕ → Flags → Operated) (w : Width) (p : Operand) (r : Registers) (s : S) (t : T) → R s t
      → Like (read_modify_write b f w p r s) (read_modify_write c f w p r t)
  modification_alike f w p r s t h =
      let moved = with_register r 0 (word_sum (r 0) 2) in
      let l = operand_location moved (word_sum (r 0) 2) p in
      then_alike (load b moved w l s) (load c moved w l t) _ _ (load_alike moved w l s t h) (λ v s' t' k. store_alike _ w l _ s' t' k)

  push_alike : (w : Width) (x : Src) (r : Registers) (s : S) (t : T) → R s t → Like (push_effect b w x r s) (push_effect c w x r t)
  push_alike w x r s t h = then_alike (source b (with_register r 0 (word_sum (r 0) 2)) w x s) (source c (with_register r 0 (word_sum (r 0) 2)) w x t) _ _
      (source_alike (with_register r 0 (word_sum (r 0) 2)) w x s t h) (λ y s' t' k. write_alike _ w y.0 _ s' t' k)

  call_alike : (x : Src) (r : Registers) (s : S) (t : T) → R s t → Like (call_effect b x r s) (call_effect c x r t)
  call_alike x r s t h = then_alike (source b (with_register r 0 (word_sum (r 0) 2)) Word x s) (source c (with_register r 0 (word_sum (r 0) 2)) Word x t) _ _
      (source_alike (with_register r 0 (word_sum (r 0) 2)) Word x s t h) (λ y s' t' k. write_alike _ Word _ _ s' t' k)

  reti_alike : (r : Registers) (s : S) (t : T) → R s t → Like (reti_effect b r s) (reti_effect c r t)
  reti_alike r s t h = then_alike (read_at b (r 1) Word s) (read_at c (r 1) Word t) _ _ (read_alike (r 1) Word s t h)
      (λ sr s' t' k. then_alike (read_at b (word_sum (r 1) 2) Word s') (read_at c (word_sum (r 1) 2) Word t') _ _ (read_alike (word_sum (r 1) 2) Word s' t' k)
      (λ pc s2 t2 j. (refl, j)))

  one_alike : (o : OneOp) (r : Registers) (s : S) (t : T) → R s t → Like (one_operand_effect b o r s) (one_operand_effect c o r t)
  one_alike (one.Rrc w p) r s t h = modification_alike rotated w p r s t h
  one_alike (one.Rra w p) r s t h = modification_alike shifted w p r s t h
  one_alike (one.Swpb p) r s t h = modification_alike exchanged Word p r s t h
  one_alike (one.Sxt p) r s t h = modification_alike sign_extended Word p r s t h
  one_alike (one.Push w x) r s t h = push_alike w x r s t h
  one_alike (one.Call x) r s t h = call_alike x r s t h

  -- an instruction does alike on buses that are alike
  pub effect_alike : (i : Instr) (r : Registers) (s : S) (t : T) → R s t → Like (effect b i r s) (effect c i r t)
  unfolding effect
  effect_alike (instr.Two op w x d) r s t h = two_alike op w x d r s t h
  effect_alike (instr.Jump k o) r s t h = (refl, h)
  effect_alike (instr.One o) r s t h = one_alike o r s t h
  effect_alike instr.Reti r s t h = reti_alike r s t h

pub carries_alike : {S T : Type 0} (b : BusModel S) (c : BusModel T) → CarriesAlike b c
carries_alike {S} {T} b c odd f g alike i r s t h = effect_alike S T b c (IsOdd odd) (SameView f g) alike i r s t h
