-- The line on which a report stops being good.
use Rattle.std.proofs.Common.{◌≡◌, ◌≤◌, ◌<◌, ℕ, zero, suc, ◌+◌, ◌==◌, Bool, List, [], ◌∷◌, ◌++◌, take, drop, arith, refl, ap, sym, ◌∙◌, subst, append_assoc}
use Rattle.std.proofs.Common.{true, false, cond}
use Rattle.std.proofs.lemmas.List.{take-append-drop}
use Rattle.std.proofs.lemmas.List.Recursion.{is_count_by}
use Rattle.std.specs.Prelude.{count_by}
use Rattle.std.proofs.lemmas.Bool.Decides.{nat_tests}
use Rattle.report_audit.specs.Good.{BeginsGood, IsFirstFault, line_feeds, first_lines}
use Rattle.report_audit.specs.Fronts.{Inputs, IsGood, IsStop}

pub feeds_are_counted : (text : List ℕ) → line_feeds text ≡ count_by (λ b. b == 10) text
feeds_are_counted text = is_count_by line_feeds (λ b. b == 10) refl (λ b bs. counted (b == 10) (line_feeds bs)) text
  where
    counted : (v : Bool) (n : ℕ) → cond v (suc n) n ≡ cond v (1 + n) n
    counted true n = omega arith
    counted false n = refl

feeds_of_both : (p q : List ℕ) → line_feeds (p ++ q) ≡ line_feeds p + line_feeds q
feeds_of_both [] q = omega arith
feeds_of_both (b ∷ p) q =
    let more = feeds_of_both p q in
    elim (b == 10) as (λ v. cond v (suc (line_feeds (p ++ q))) (line_feeds (p ++ q)) ≡ cond v (suc (line_feeds p)) (line_feeds p) + line_feeds q) [
      | true ↦ omega (arith, more)
      | false ↦ more
    ]

-- lines that are a front of a text
abbrev AreFront : List ℕ → List ℕ → Type 0
AreFront p lines = (tail : List ℕ) × (p ≡ lines ++ tail)

-- the lines that are ended in a front of a text are a front of it
lines_in_front : (p q : List ℕ) → AreFront p (first_lines (line_feeds p) (p ++ q))
lines_in_front [] q = ([], refl)
lines_in_front (b ∷ p) q = by_feed (lines_in_front p q) (b == 10) refl
  where
    plain : AreFront p (first_lines (line_feeds p) (p ++ q)) → (n : ℕ) → line_feeds p ≡ n → (b == 10) ≡ false
        → AreFront (b ∷ p) (first_lines n (b ∷ (p ++ q)))
    plain more zero is other = (b ∷ p, refl)
    plain more (suc n) is other =
        let there : p ≡ first_lines (suc n) (p ++ q) ++ more.0 = more.1 ∙ ap (λ m. first_lines m (p ++ q) ++ more.0) is in
        let P : Bool → Type 0 = λ v. b ∷ p ≡ (b ∷ cond v (first_lines n (p ++ q)) (first_lines (suc n) (p ++ q))) ++ more.0 in
        (more.0, subst P (sym other) (ap (λ l. b ∷ l) there))

    by_feed : AreFront p (first_lines (line_feeds p) (p ++ q)) → (v : Bool) → (b == 10) ≡ v
        → AreFront (b ∷ p) (first_lines (line_feeds (b ∷ p)) (b ∷ (p ++ q)))
    by_feed more true e =
        let P : Bool → Type 0 = λ v. b ∷ p ≡ (b ∷ cond v (first_lines (line_feeds p) (p ++ q)) (first_lines (suc (line_feeds p)) (p ++ q))) ++ more.0 in
        let there : b ∷ p ≡ first_lines (suc (line_feeds p)) (b ∷ (p ++ q)) ++ more.0 = subst P (sym e) (ap (λ l. b ∷ l) more.1) in
        let count : line_feeds (b ∷ p) ≡ suc (line_feeds p) = ap (λ v. cond v (suc (line_feeds p)) (line_feeds p)) e in
        let Q : ℕ → Type 0 = λ n. AreFront (b ∷ p) (first_lines n (b ∷ (p ++ q))) in
        subst Q (sym count) (more.0, there)
    by_feed more false e =
        let count : line_feeds (b ∷ p) ≡ line_feeds p = ap (λ v. cond v (suc (line_feeds p)) (line_feeds p)) e in
        let Q : ℕ → Type 0 = λ n. AreFront (b ∷ p) (first_lines n (b ∷ (p ++ q))) in
        subst Q (sym count) (plain more (line_feeds p) refl e)

-- with one line more they end at the first line feed behind it
record EndsBehind (p q : List ℕ) (lines : List ℕ) : Type 0 where
  line : List ℕ
  behind : List ℕ
  there : q ≡ line ++ 10 ∷ behind
  lines_are : lines ≡ p ++ (line ++ 10 ∷ [])

first_of : (q : List ℕ) → 0 < line_feeds q → EndsBehind [] q (first_lines 1 q)
first_of [] h = absurd (omega arith)
first_of (b ∷ q) h = by_feed (λ k. first_of q k) (b == 10) refl
  where
    by_feed : (0 < line_feeds q → EndsBehind [] q (first_lines 1 q)) → (v : Bool) → (b == 10) ≡ v → EndsBehind [] (b ∷ q) (first_lines 1 (b ∷ q))
    by_feed ih true e =
        let is : b ≡ 10 = grind (arith, nat_tests, e) in
        record {
          line = [];
          behind = q;
          there = ap (λ c. c ∷ q) is;
          lines_are = ap (λ v. b ∷ cond v [] (first_lines 1 q)) e ∙ ap (λ c. c ∷ []) is;
        }
    by_feed ih false e =
        let count : line_feeds (b ∷ q) ≡ line_feeds q = ap (λ v. cond v (suc (line_feeds q)) (line_feeds q)) e in
        let more = ih (omega (arith, count, h)) in
        record {
          line = b ∷ more.line;
          behind = more.behind;
          there = ap (λ l. b ∷ l) more.there;
          lines_are = ap (λ v. b ∷ cond v [] (first_lines 1 q)) e ∙ ap (λ l. b ∷ l) more.lines_are;
        }

one_line_more : (p q : List ℕ) → line_feeds p < line_feeds (p ++ q) → EndsBehind p q (first_lines (suc (line_feeds p)) (p ++ q))
one_line_more [] q h = first_of q h
one_line_more (b ∷ p) q h = by_feed (λ k. one_line_more p q k) (b == 10) refl
  where
    by_feed : (line_feeds p < line_feeds (p ++ q) → EndsBehind p q (first_lines (suc (line_feeds p)) (p ++ q)))
        → (v : Bool) → (b == 10) ≡ v → EndsBehind (b ∷ p) q (first_lines (suc (line_feeds (b ∷ p))) (b ∷ (p ++ q)))
    by_feed ih true e =
        let count : line_feeds (b ∷ p) ≡ suc (line_feeds p) = ap (λ v. cond v (suc (line_feeds p)) (line_feeds p)) e in
        let all : line_feeds (b ∷ (p ++ q)) ≡ suc (line_feeds (p ++ q)) = ap (λ v. cond v (suc (line_feeds (p ++ q))) (line_feeds (p ++ q))) e in
        let more = ih (omega (arith, count, all, h)) in
        record {
          line = more.line;
          behind = more.behind;
          there = more.there;
          lines_are = ap (λ n. first_lines (suc n) (b ∷ (p ++ q))) count
              ∙ ap (λ v. b ∷ cond v (first_lines (suc (line_feeds p)) (p ++ q)) (first_lines (suc (suc (line_feeds p))) (p ++ q))) e
              ∙ ap (λ l. b ∷ l) more.lines_are;
        }
    by_feed ih false e =
        let count : line_feeds (b ∷ p) ≡ line_feeds p = ap (λ v. cond v (suc (line_feeds p)) (line_feeds p)) e in
        let all : line_feeds (b ∷ (p ++ q)) ≡ line_feeds (p ++ q) = ap (λ v. cond v (suc (line_feeds (p ++ q))) (line_feeds (p ++ q))) e in
        let more = ih (omega (arith, count, all, h)) in
        record {
          line = more.line;
          behind = more.behind;
          there = more.there;
          lines_are = ap (λ n. first_lines (suc n) (b ∷ (p ++ q))) count
              ∙ ap (λ v. b ∷ cond v (first_lines (line_feeds p) (p ++ q)) (first_lines (suc (line_feeds p)) (p ++ q))) e
              ∙ ap (λ l. b ∷ l) more.lines_are;
        }

-- the line of the place where a report stops being good is its first faulty one
pub stops_on_line : (i : Inputs) (at : ℕ) → IsStop i at
    → IsFirstFault i.source i.program i.bound i.readings i.report (line_feeds (take at i.report) + 1)
stops_on_line i at stop =
    let p : List ℕ = take at i.report in
    let q : List ℕ = drop at i.report in
    let whole : p ++ q ≡ i.report = take-append-drop at i.report in
    let front = lines_in_front p q in
    let Begins : List ℕ → Type 0 = λ text. BeginsGood i.source i.program i.bound i.readings (first_lines (line_feeds p) text) in
    let Differs : List ℕ → Type 0 = λ text. line_feeds p < line_feeds text
    → BeginsGood i.source i.program i.bound i.readings (first_lines (line_feeds p + 1) text) → ⊥ in
    let Counted : List ℕ → Type 0 = λ text. line_feeds p ≤ line_feeds text in
    let Begun : List ℕ → Type 0 = λ text. IsGood i text stop.t in
    let begins : IsGood i (first_lines (line_feeds p) (p ++ q) ++ (front.0 ++ stop.rest)) stop.t =
    subst Begun (ap (λ x. x ++ stop.rest) front.1 ∙ append_assoc (first_lines (line_feeds p) (p ++ q)) front.0 stop.rest) stop.begins in
    record {
      before = line_feeds p;
      line_is = refl;
      counted = subst Counted whole (let both = feeds_of_both p q in omega (arith, both));
      begins = subst Begins whole (record { rest = front.0 ++ stop.rest; t = stop.t; good = begins });
      differs = subst Differs whole (λ more b. stops more b);
      not_good = stop.not_good;
    }
  where
    stops : line_feeds (take at i.report) < line_feeds (take at i.report ++ drop at i.report)
        → BeginsGood i.source i.program i.bound i.readings (first_lines (line_feeds (take at i.report) + 1) (take at i.report ++ drop at i.report)) → ⊥
    stops more b =
        let p : List ℕ = take at i.report in
        let q : List ℕ = drop at i.report in
        let ends = one_line_more p q more in
        let next : line_feeds p + 1 ≡ suc (line_feeds p) = omega arith in
        let P : List ℕ → Type 0 = λ text. IsGood i text b.t in
        let is : first_lines (line_feeds p + 1) (p ++ q) ++ b.rest ≡ p ++ (ends.line ++ 10 ∷ b.rest) =
        ap (λ n. first_lines n (p ++ q) ++ b.rest) next ∙ ap (λ x. x ++ b.rest) ends.lines_are ∙ append_assoc p (ends.line ++ 10 ∷ []) b.rest
        ∙ ap (λ x. p ++ x) (append_assoc ends.line (10 ∷ []) b.rest) in
        stop.differs b.t ends.line ends.behind b.rest ends.there (subst P is b.good)
