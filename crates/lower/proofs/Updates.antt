-- An assignment in place: `x = x + e`, `a[i] = a[i] + e` and their like.
use Rattle.lower.proofs.Names.{List, [], ◌≡◌, ℕ, Bool, true, false, not, ◌&&◌, ◌||◌, Option, Some, None, refl, sym, ap, subst, ◌∙◌, if◌then◌else◌, eqb-true}
use Rattle.lower.proofs.Names.{and_parts}
use Rattle.lower.proofs.Names.{CheckedExpression, WordType, Unsigned, Int, Long, BinaryOperator, Variable, Shared, Local, VariableName, PlacedOperator}
use Rattle.lower.proofs.Names.{ShiftOperator, Literal, ◌+◌, ◌*◌, ◌%◌, ◌==◌, arith}
use Rattle.lower.proofs.Names.{IsOneWord, by_one_word, joined_word, ◌>>?◌, Evaluated, gives, made_of, word_at, scalar_value, binary_value, binary_result}
use Rattle.lower.proofs.Names.{value_of, scalar_word, value_keeps, Outcome, if_value, with_value, PlainOperation, plain_word, plain_operation, is_same}
use Rattle.lower.proofs.Names.{has_call, is_settled, shift_result, truth_word, unary_result, is_name, updating, doubling, of_words, is_number, are_alike}
use Rattle.lower.proofs.Names.{element_updating}
use Rattle.source_values.specs.Values.{Attempt, Meaning, joined_type, type_of}
use Rattle.source_values.specs.Statements.{goes_on, assigned}
use Rattle.task_ast.specs.Tree as t
use Rattle.task_ast.specs.declared.BinaryOperator.TheVariants as operator
use Rattle.task_ast.specs.declared.ShiftOperator.TheVariants as shift_operator
use Rattle.array_versions.specs.declared.operations.PlainOperation.TheVariants as plain

-- an operation that is one of words
pub record IsOfWords (of : WordType) (o : Option PlainOperation) (p : PlainOperation) : Type 0 where
  pub word : IsOneWord of
  pub is : o ≡ Some p

pub is_of_words : (of : WordType) (o : Option PlainOperation) (p : PlainOperation) → of_words of o ≡ Some p → IsOfWords of o p
is_of_words Long o p h = absurd (cc)
is_of_words of o p h = record { word = tt; is = h }

-- operands whose joined type has one word have one word
pub joined_words : (s of : WordType) → IsOneWord (joined_type s of) → IsOneWord s × IsOneWord of
joined_words Long of k = absurd k
joined_words Int Long k = absurd k
joined_words Unsigned Long k = absurd k
joined_words Int of k = (tt, tt)
joined_words Unsigned of k = (tt, tt)

-- ---- expressions without a call

neither : (a b : Bool) → (a || b) ≡ false → (a ≡ false) × (b ≡ false)
neither true b h = absurd (let never : true ≡ false = h in cc)
neither false b h = (refl, h)

-- their value is the same whatever functions there are
no_call_value : (fs : List Meaning) (e : CheckedExpression) (s : Attempt) → has_call e ≡ false → value_of fs e s ≡ value_of [] e s
no_call_value fs (t.number n) s h = refl
no_call_value fs (t.long_number n) s h = refl
no_call_value fs (t.name x) s h = refl
no_call_value fs (t.element x index) s h =
    ap (λ o. o >>? λ i. gives (word_at i.behind.variables x.variable i.value) i.behind) (no_call_value fs index s h)
no_call_value fs t.sense s h = refl
no_call_value fs t.next_event s h = refl
no_call_value fs (t.call f values) s h = absurd (let never : true ≡ false = h in cc)
no_call_value fs (t.unary op e) s h = ap (made_of (λ w. unary_result op (type_of e) w)) (no_call_value fs e s h)
no_call_value fs (t.binary op a b) s h =
    let none = neither (has_call a) (has_call b) h in
    λ i. no_call_value fs a s none.0 i
    >>? λ x. made_of (λ w. binary_result op.operator (type_of a) (type_of b) x.value w) (no_call_value fs b x.behind none.1 i)
no_call_value fs (t.shift op e count) s h = ap (made_of (λ w. shift_result op (type_of e) w count.value)) (no_call_value fs e s h)
no_call_value fs (t.short_circuit op a b) s h =
    let none = neither (has_call a) (has_call b) h in
    λ i. no_call_value fs a s none.0 i
    >>? λ x. if is_settled op x.value then gives (truth_word x.value) x.behind else made_of truth_word (no_call_value fs b x.behind none.1 i)

-- and leaves the variables as they were
no_call_keeps : (fs : List Meaning) (e : CheckedExpression) (s : Attempt) (x : Evaluated) → has_call e ≡ false → value_of fs e s ≡ Some x
    → x.behind.variables ≡ s.variables
no_call_keeps fs e s x none is = (value_keeps e s x (sym (no_call_value fs e s none) ∙ is)).variables

-- ---- operators and left sides

-- the left side is the variable alone, the right one has no call, and the operator has an operation that is one instruction
pub record IsUpdate (x : Variable) (op : BinaryOperator) (a b : CheckedExpression) (o : PlainOperation) : Type 0 where
  pub name : VariableName
  pub is : a ≡ t.name name
  pub same : name.variable ≡ x
  pub no_call : has_call b ≡ false
  pub operation : plain_operation op ≡ Some o

same_variable : (x y : Variable) → is_same x y ≡ true → y ≡ x
same_variable (Shared v) (Shared w) e = ap Shared (eqb-true w v e)
same_variable (Local m) (Local n) e = ap Local (eqb-true n m e)
same_variable (Shared v) (Local n) e = absurd (cc)
same_variable (Local m) (Shared w) e = absurd (cc)

not_true : (b : Bool) → not b ≡ true → b ≡ false
not_true true h = absurd (let never : false ≡ true = h in cc)
not_true false h = refl

-- where the left side isn't the variable, or the right one has a call, there is none
by_name : (may : Bool) (x : Variable) (op : BinaryOperator) (y : VariableName) (b : CheckedExpression) (o : PlainOperation)
    → (is_same x y.variable && not (has_call b)) ≡ may → (if may then plain_operation op else None) ≡ Some o → IsUpdate x op (t.name y) b o
by_name true x op y b o is h =
    let both = and_parts (is_same x y.variable) (not (has_call b)) is in
    record { name = y; is = refl; same = same_variable x y.variable both.0; no_call = not_true (has_call b) both.1; operation = h }
by_name false x op y b o is h = absurd (cc)

pub is_update : (x : Variable) (op : BinaryOperator) (a b : CheckedExpression) (o : PlainOperation) → updating x op a b ≡ Some o → IsUpdate x op a b o
is_update x op (t.name y) b o h = by_name (is_same x y.variable && not (has_call b)) x op y b o refl h
is_update x op a b o h = absurd (cc)

-- the left side is the element, at an index that is as its own, the right one has no call, and the operator has an operation that is one instruction
pub record IsElementUpdate (x : Variable) (index : CheckedExpression) (op : BinaryOperator) (a b : CheckedExpression) (o : PlainOperation) : Type 0 where
  pub name : VariableName
  pub other : CheckedExpression
  pub is : a ≡ t.element name other
  pub same : name.variable ≡ x
  pub alike : are_alike index other ≡ true
  pub no_call : has_call b ≡ false
  pub operation : plain_operation op ≡ Some o

-- where the left side isn't the element, or the right one has a call, there is none
by_element : (may : Bool) (x : Variable) (index : CheckedExpression) (op : BinaryOperator) (y : VariableName) (other b : CheckedExpression)
    (o : PlainOperation)
    → ((is_same x y.variable && are_alike index other) && not (has_call b)) ≡ may → (if may then plain_operation op else None) ≡ Some o
    → IsElementUpdate x index op (t.element y other) b o
by_element true x index op y other b o is h =
    let both = and_parts (is_same x y.variable && are_alike index other) (not (has_call b)) is in
    let parts = and_parts (is_same x y.variable) (are_alike index other) both.0 in
    record {
      name = y;
      other = other;
      is = refl;
      same = same_variable x y.variable parts.0;
      alike = parts.1;
      no_call = not_true (has_call b) both.1;
      operation = h;
    }
by_element false x index op y other b o is h = absurd (cc)

pub is_element_update : (x : Variable) (index : CheckedExpression) (op : BinaryOperator) (a b : CheckedExpression) (o : PlainOperation)
    → element_updating x index op a b ≡ Some o → IsElementUpdate x index op a b o
is_element_update x index op (t.element y other) b o h =
    by_element ((is_same x y.variable && are_alike index other) && not (has_call b)) x index op y other b o refl h
is_element_update x index op a b o h = absurd (cc)

-- two expressions have one word, and leave the attempt as it is
record HaveOneWord (fs : List Meaning) (m : Attempt) (a b : CheckedExpression) : Type 0 where
  word : ℕ
  first : value_of fs a m ≡ gives word m
  second : value_of fs b m ≡ gives word m

number_value : (fs : List Meaning) (m : Attempt) (n : ℕ) (e : CheckedExpression) → is_number n e ≡ true → value_of fs e m ≡ gives n m
number_value fs m n (t.number k) h = ap (λ w. gives w m) (sym (eqb-true n k h))
number_value fs m n e h = absurd (cc)

name_value : (fs : List Meaning) (m : Attempt) (x : Variable) (e : CheckedExpression) → IsOneWord (type_of e) → is_name x e ≡ true
    → value_of fs e m ≡ gives (word_at m.variables x 0) m
name_value fs m x (t.name y) one h =
    ap (λ w. gives w m) (scalar_word m.variables y one ∙ ap (λ z. word_at m.variables z 0) (same_variable x y.variable h))
name_value fs m x e one h = absurd (cc)

alike_values : (fs : List Meaning) (m : Attempt) (a b : CheckedExpression) → IsOneWord (type_of a) → IsOneWord (type_of b) → are_alike a b ≡ true
    → HaveOneWord fs m a b
alike_values fs m (t.number n) b of_first of_second h = record { word = n; first = refl; second = number_value fs m n b h }
alike_values fs m (t.name x) b of_first of_second h = record {
  word = word_at m.variables x.variable 0;
  first = ap (λ w. gives w m) (scalar_word m.variables x of_first);
  second = name_value fs m x.variable b of_second h;
}
alike_values fs m a b of_first of_second h = absurd (cc)

-- the operator gives what the operation does
plain_value : (op : BinaryOperator) (o : PlainOperation) (of : WordType) (a b : ℕ) → plain_operation op ≡ Some o
    → binary_value op of a b ≡ plain_word o a b
plain_value operator.Add o of a b h = let e : plain.Add ≡ o = cc in ap (λ p. plain_word p a b) e
plain_value operator.Subtract o of a b h = let e : plain.Subtract ≡ o = cc in ap (λ p. plain_word p a b) e
plain_value operator.And o of a b h = let e : plain.And ≡ o = cc in ap (λ p. plain_word p a b) e
plain_value operator.Xor o of a b h = let e : plain.Xor ≡ o = cc in ap (λ p. plain_word p a b) e
plain_value operator.Or o of a b h = let e : plain.Or ≡ o = cc in ap (λ p. plain_word p a b) e
plain_value _ o of a b h = absurd (cc)

-- the same by the types of two words
plain_result : (op : BinaryOperator) (o : PlainOperation) (s of : WordType) (a b : ℕ) → IsOneWord s → IsOneWord of → plain_operation op ≡ Some o
    → binary_result op s of a b ≡ plain_word o a b
plain_result op o s of a b of_left of_right h =
    by_one_word (joined_type s of) _ _ (joined_word s of of_left of_right) ∙ plain_value op o (joined_type s of) a b h

-- a shift of the variable alone, by one bit to the left
pub record IsDoubling (x : Variable) (op : ShiftOperator) (e : CheckedExpression) (k : ℕ) (o : PlainOperation) : Type 0 where
  pub name : VariableName
  pub is : e ≡ t.name name
  pub same : name.variable ≡ x
  pub left : op ≡ shift_operator.Left
  pub once : k ≡ 1
  pub sum : o ≡ plain.Add

-- where it isn't the variable, or another count of bits, there is none
by_bits : (may : Bool) (x : Variable) (y : VariableName) (k : ℕ) (o : PlainOperation) → (is_same x y.variable && (k == 1)) ≡ may
    → (if may then Some plain.Add else None) ≡ Some o → IsDoubling x shift_operator.Left (t.name y) k o
by_bits true x y k o is h =
    let both = and_parts (is_same x y.variable) (k == 1) is in
    record { name = y; is = refl; same = same_variable x y.variable both.0; left = refl; once = eqb-true k 1 both.1; sum = cc }
by_bits false x y k o is h = absurd (cc)

pub is_doubling : (x : Variable) (op : ShiftOperator) (e : CheckedExpression) (k : ℕ) (o : PlainOperation) → doubling x op e k ≡ Some o
    → IsDoubling x op e k o
is_doubling x shift_operator.Left (t.name y) k o h = by_bits (is_same x y.variable && (k == 1)) x y k o refl h
is_doubling x op e k o h = absurd (cc)

-- an assignment to a word of a variable goes on with what the operation does, the word on the left side being that before the right side is
-- evaluated
updated_value : (fs : List Meaning) (x : Variable) (i : ℕ) (b : CheckedExpression) (m : Attempt) (f : ℕ → ℕ) (o : PlainOperation)
    → has_call b ≡ false → ((v : ℕ) → f v ≡ plain_word o (word_at m.variables x i) v)
    → if_value (made_of f (value_of fs b m)) (λ v s. goes_on (assigned s x i v))
    ≡ with_value fs b m (λ v s. goes_on (assigned s x i (plain_word o (word_at s.variables x i) v)))
updated_value fs x i b m f o none same = by (value_of fs b m) refl
  where
    by : (r : Option Evaluated) → value_of fs b m ≡ r
        → if_value (made_of f r) (λ v s. goes_on (assigned s x i v)) ≡ if_value r (λ v s. goes_on (assigned s x i (plain_word o (word_at s.variables x i) v)))
    by None is = refl
    by (Some y) is = ap (λ v. goes_on (assigned y.behind x i v))
        (same y.value ∙ ap (λ vs. plain_word o (word_at vs x i) y.value) (sym (no_call_keeps fs b m y none is)))

pub update_goes_on : (fs : List Meaning) (x : Variable) (op : PlacedOperator) (a b : CheckedExpression) (o : PlainOperation) (m : Attempt)
    → IsUpdate x op.operator a b o
    → IsOneWord (type_of a) → IsOneWord (type_of b)
    → with_value fs (t.binary op a b) m (λ v s. goes_on (assigned s x 0 v))
    ≡ with_value fs b m (λ v s. goes_on (assigned s x 0 (plain_word o (word_at s.variables x 0) v)))
update_goes_on fs x op a b o m u of_left of_right =
    ap (λ e. with_value fs (t.binary op e b) m (λ v s. goes_on (assigned s x 0 v))) u.is
    ∙ updated_value fs x 0 b m (binary_result op.operator u.name.word_type (type_of b) (scalar_value m.variables u.name)) o u.no_call same
  where
    one : IsOneWord u.name.word_type
    one = subst (λ e. IsOneWord (type_of e)) u.is of_left

    same : (v : ℕ) → binary_result op.operator u.name.word_type (type_of b) (scalar_value m.variables u.name) v ≡ plain_word o (word_at m.variables x 0) v
    same v =
        ap (λ n. binary_result op.operator u.name.word_type (type_of b) n v) (scalar_word m.variables u.name one ∙ ap (λ y. word_at m.variables y 0) u.same)
        ∙ plain_result op.operator o u.name.word_type (type_of b) (word_at m.variables x 0) v one of_right u.operation

-- a word shifted by one bit to the left is the sum of it and itself
doubled_value : (of : WordType) (w : ℕ) → IsOneWord of → shift_result shift_operator.Left of w 1 ≡ plain_word plain.Add w w
doubled_value of w one =
    let twice : w * 2 ≡ w + w = omega arith in
    by_one_word of _ _ one ∙ ap (λ n. n % 65536) twice

pub doubling_goes_on : (fs : List Meaning) (x : Variable) (op : ShiftOperator) (e : CheckedExpression) (count : Literal) (o : PlainOperation) (m : Attempt)
    → IsDoubling x op e count.value o → IsOneWord (type_of e)
    → with_value fs (t.shift op e count) m (λ v s. goes_on (assigned s x 0 v))
    ≡ with_value fs e m (λ v s. goes_on (assigned s x 0 (plain_word o (word_at s.variables x 0) v)))
doubling_goes_on fs x op e count o m u of_word =
    ap (λ f. with_value fs (t.shift op f count) m (λ v s. goes_on (assigned s x 0 v))) u.is
    ∙ ap (λ v. goes_on (assigned m x 0 v)) same
    ∙ sym (ap (λ f. with_value fs f m (λ v s. goes_on (assigned s x 0 (plain_word o (word_at s.variables x 0) v)))) u.is)
  where
    one : IsOneWord u.name.word_type
    one = subst (λ f. IsOneWord (type_of f)) u.is of_word

    word : ℕ
    word = scalar_value m.variables u.name

    its_word : word ≡ word_at m.variables x 0
    its_word = scalar_word m.variables u.name one ∙ ap (λ y. word_at m.variables y 0) u.same

    same : shift_result op u.name.word_type word count.value ≡ plain_word o (word_at m.variables x 0) word
    same =
        ap (λ p. shift_result p u.name.word_type word count.value) u.left
        ∙ ap (λ k. shift_result shift_operator.Left u.name.word_type word k) u.once
        ∙ doubled_value u.name.word_type word one
        ∙ ap (λ n. plain_word plain.Add n word) its_word
        ∙ ap (λ p. plain_word p (word_at m.variables x 0) word) (sym u.sum)

-- what an assignment to an element goes on with, where the index is evaluated first
abbrev pub stored_value : List Meaning → Variable → CheckedExpression → ℕ → Attempt → Outcome
stored_value fs x e i s = with_value fs e s (λ v s. goes_on (assigned s x i v))

-- the same in place
abbrev updated_element : List Meaning → Variable → PlainOperation → CheckedExpression → ℕ → Attempt → Outcome
updated_element fs x o b i s = with_value fs b s (λ v s. goes_on (assigned s x i (plain_word o (word_at s.variables x i) v)))

-- both indexes and both sides are of one word
pub record AreOneWord (first second a b : CheckedExpression) : Type 0 where
  pub index : IsOneWord (type_of first)
  pub other : IsOneWord (type_of second)
  pub left : IsOneWord (type_of a)
  pub right : IsOneWord (type_of b)

pub element_update_goes_on : (fs : List Meaning) (x : Variable) (index : CheckedExpression) (op : PlacedOperator) (a b : CheckedExpression)
    (o : PlainOperation) (m : Attempt) (u : IsElementUpdate x index op.operator a b o) → AreOneWord index u.other a b
    → with_value fs index m (stored_value fs x (t.binary op a b)) ≡ with_value fs index m (updated_element fs x o b)
element_update_goes_on fs x index op a b o m u one =
    let of = u.name.word_type in
    let result = binary_result op.operator of (type_of b) in
    let indexes = alike_values fs m index u.other one.index one.other u.alike in
    let i = indexes.word in
    let stored : ℕ → Attempt → Outcome = λ v s. goes_on (assigned s x i v) in
    let element_of : Option Evaluated → Option Evaluated =
    λ r. r >>? λ j. gives (word_at j.behind.variables u.name.variable j.value) j.behind in
    let behind_index : Option Evaluated → Outcome =
    λ r. if_value (element_of r >>? λ y. made_of (result y.value) (value_of fs b y.behind)) stored in
    let behind_word : ℕ → Outcome = λ n. if_value (made_of (result n) (value_of fs b m)) stored in
    let of_left = subst (λ e. IsOneWord (type_of e)) u.is one.left in
    let word = word_at m.variables x i in
    ap (λ r. if_value r (stored_value fs x (t.binary op a b))) indexes.first
    ∙ ap (λ e. stored_value fs x (t.binary op e b) i m) u.is
    ∙ ap behind_index indexes.second
    ∙ ap (λ y. behind_word (word_at m.variables y i)) u.same
    ∙ updated_value fs x i b m (result word) o u.no_call (λ v. plain_result op.operator o of (type_of b) word v of_left one.right u.operation)
    ∙ sym (ap (λ r. if_value r (updated_element fs x o b)) indexes.first)
