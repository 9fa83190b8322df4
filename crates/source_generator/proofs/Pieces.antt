-- Lists that are written in pieces, one behind the other.
use Rattle.std.proofs.Common.{◌≡◌, ℕ, ◌+◌, ◌%◌, List, [], ◌∷◌, ◌++◌, ap, sym, ◌∙◌, append_assoc, append-nil, codes}
use Rattle.std.specs.Fmt.{decimal}
use Rattle.source_generator.specs.Source.{texts, scalar_text, task_end, scalar_texts, task_texts, generated_text}
use Rattle.source_generator.specs.Draws.{draws, behind}

-- a piece more of what is left to write
pub written_more : {A : Type 0} (x y a b left whole : List A) → x ++ left ≡ whole → y ≡ x ++ a → left ≡ a ++ b → y ++ b ≡ whole
written_more x y a b left whole e f g = ap (λ r. r ++ b) f ∙ append_assoc x a b ∙ ap (λ r. x ++ r) (sym g) ∙ e

-- nothing is left to write
pub all_written : {A : Type 0} (x left whole : List A) → x ++ left ≡ whole → left ≡ [] → x ≡ whole
all_written x left whole e f = sym (append-nil x) ∙ ap (λ r. x ++ r) (sym f) ∙ e

-- the last piece
last_piece : (x y a : List ℕ) → y ≡ x ++ a → y ≡ x ++ texts (a ∷ [])
last_piece x y a e = e ∙ ap (λ r. x ++ r) (sym (append-nil a))

-- a piece, and behind it the others
piece : (x y z a : List ℕ) (more : List (List ℕ)) → y ≡ x ++ a → z ≡ y ++ texts more → z ≡ x ++ texts (a ∷ more)
piece x y z a more e f = f ∙ ap (λ r. r ++ texts more) e ∙ append_assoc x a (texts more)

pub scalar_written : (k value : ℕ) (a b c d e f : List ℕ) → b ≡ a ++ codes "shared unsigned x" → c ≡ b ++ decimal k → d ≡ c ++ codes " = "
    → e ≡ d ++ decimal value → f ≡ e ++ codes ";\n" → f ≡ a ++ scalar_text k value
unfolding scalar_text
scalar_written k value a b c d e f p q r s t =
    piece a b f (codes "shared unsigned x") (decimal k ∷ codes " = " ∷ decimal value ∷ codes ";\n" ∷ []) p
    (piece b c f (decimal k) (codes " = " ∷ decimal value ∷ codes ";\n" ∷ []) q
    (piece c d f (codes " = ") (decimal value ∷ codes ";\n" ∷ []) r
    (piece d e f (decimal value) (codes ";\n" ∷ []) s (last_piece e f (codes ";\n") t))))

pub task_ended : (k draw : ℕ) (a b c d : List ℕ) → b ≡ a ++ codes "  transition_to(t" → c ≡ b ++ decimal ((k + 1 + draw % 3) % 16)
    → d ≡ c ++ codes ");\n}\n" → d ≡ a ++ task_end k draw
unfolding task_end
task_ended k draw a b c d p q r =
    piece a b d (codes "  transition_to(t") (decimal ((k + 1 + draw % 3) % 16) ∷ codes ");\n}\n" ∷ []) p
    (piece b c d (decimal ((k + 1 + draw % 3) % 16)) (codes ");\n}\n" ∷ []) q (last_piece c d (codes ");\n}\n") r))

pub source_written : (n s t : ℕ) (a b c d e : List ℕ) → s ≡ n → t ≡ behind 8 s → a ≡ [] → b ≡ a ++ scalar_texts 0 (draws 8 s)
    → c ≡ b ++ codes "shared unsigned a0[32];\nshared unsigned a1[32];\n" → d ≡ c ++ task_texts 16 0 t → e ≡ d ++ codes "entry t0;\n" → e ≡ generated_text n
unfolding generated_text
source_written n s t a b c d e p q f g h i j =
    let arrays : List ℕ = codes "shared unsigned a0[32];\nshared unsigned a1[32];\n" in
    let tasks : List ℕ = task_texts 16 0 (behind 8 n) in
    let state : t ≡ behind 8 n = q ∙ ap (behind 8) p in
    let scalars : b ≡ scalar_texts 0 (draws 8 n) = g ∙ ap (λ r. r ++ scalar_texts 0 (draws 8 s)) f ∙ ap (λ x. scalar_texts 0 (draws 8 x)) p in
    let written : d ≡ c ++ tasks = i ∙ ap (λ x. c ++ task_texts 16 0 x) state in
    j ∙ ap (λ r. r ++ codes "entry t0;\n") written ∙ append_assoc c tasks (codes "entry t0;\n") ∙ ap (λ r. r ++ (tasks ++ codes "entry t0;\n")) h
    ∙ append_assoc b arrays (tasks ++ codes "entry t0;\n") ∙ ap (λ r. r ++ (arrays ++ (tasks ++ codes "entry t0;\n"))) scalars
