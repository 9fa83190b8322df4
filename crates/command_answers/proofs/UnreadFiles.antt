-- Why one file of a list wasn't read is why the list wasn't.
use Rattle.std.proofs.Common.{◌≡◌, ◌≤◌, ◌⊎◌, inl, inr, ℕ, List, [], ◌∷◌, ◌++◌, length, Option, Some, None, IfSome, Result, Ok, Err, IsErr, IsErrAnd, IfErr}
use Rattle.std.proofs.Common.{arith, subst, sym}
use Rattle.std.proofs.lemmas.Option.{IfSome_then}
use Rattle.alp_io.specs.Count.{Rose}
use Rattle.alp_io.specs.Shelf.{Files, Counts, NeverFall}
use Rattle.command_answers.specs.declared.inputs.Unread.{Unread}
use Rattle.command_answers.specs.declared.inputs.Unread.TheVariants.{Unreadable, TooLong, Memory}
use Rattle.command_answers.specs.InputFiles.{Fits, IsFirstUnfit, here, behind, IsOneOf, first, later, IsUnreadable, IsTooLong, IsOverlong, IsUnread}

-- ---- one file

pub alone_failed : (files : Option Files) (name : List ℕ) (old new : Counts) → Rose old.failed_reads new.failed_reads
    → IsUnreadable files (name ∷ []) name old new
alone_failed files name old new rose = record { one = first []; cause = inl rose }

pub alone_missing : (files : Option Files) (name : List ℕ) (old new : Counts) → Rose old.missing_reads new.missing_reads → IfSome files (λ f. f name ≡ None)
    → IsUnreadable files (name ∷ []) name old new
alone_missing files name old new rose none =
    record { one = first []; cause = inr (rose, IfSome_then files none (λ f is. here name [] is)) }

pub alone_too_long : (files : Option Files) (name : List ℕ) (old new : Counts) → Rose old.overlong_reads new.overlong_reads
    → IfSome files (λ f. IsOverlong (f name))
    → IsTooLong files (name ∷ []) name old new
alone_too_long files name old new rose long =
    record { one = first []; cause = rose; overlong = IfSome_then files long (λ f is. here name [] is) }

-- ---- the first of several

-- a list of names with more behind it has the same first unfit file
unfit_before : (f : Files) (P : Option (List ℕ) → Type 0) (names more : List (List ℕ)) (name : List ℕ) → IsFirstUnfit f P names name
    → IsFirstUnfit f P (names ++ more) name
unfit_before f P names more name (here a rest p) = here a (rest ++ more) p
unfit_before f P names more name (behind n other rest fits p) = behind n other (rest ++ more) fits (unfit_before f P rest more n p)

one_before : (name : List ℕ) (names more : List (List ℕ)) → IsOneOf name names → IsOneOf name (names ++ more)
one_before name names more (first rest) = first (rest ++ more)
one_before name names more (later other rest one) = later other (rest ++ more) (one_before name rest more one)

pub front_unread : (e : Unread) (files : Option Files) (names more : List (List ℕ)) (old new : Counts) → IsUnread e files names old new
    → IsUnread e files (names ++ more) old new
front_unread (Unreadable name) files names more old new u = record { one = one_before name.now names more u.one; cause = causes u.cause }
  where
    causes : Rose old.failed_reads new.failed_reads
        ⊎ (Rose old.missing_reads new.missing_reads × IfSome files (λ f. IsFirstUnfit f (λ file. file ≡ None) names name.now))
        → Rose old.failed_reads new.failed_reads ⊎ (Rose old.missing_reads new.missing_reads
        × IfSome files (λ f. IsFirstUnfit f (λ file. file ≡ None) (names ++ more) name.now))
    causes (inl rose) = inl rose
    causes (inr (rose, none)) = inr (rose, IfSome_then files none (λ f is. unfit_before f _ names more name.now is))
front_unread (TooLong name) files names more old new u = record {
  one = one_before name.now names more u.one;
  cause = u.cause;
  overlong = IfSome_then files u.overlong (λ f is. unfit_before f _ names more name.now is);
}
front_unread Memory files names more old new u = tt

-- ---- those behind one that fits

pub rose_later : (old mid new : ℕ) → old ≤ mid → Rose mid new → Rose old new
rose_later old mid new le (inl lt) = inl (omega arith)
rose_later old mid new le (inr e) = inr e

both_some : (files : Option Files) (a : List ℕ) (bytes : List ℕ) (P Q : Files → Type 0) → IfSome files (λ f. f a ≡ Some bytes) → IfSome files P
    → ((f : Files) → f a ≡ Some bytes → P f → Q f) → IfSome files Q
both_some None a bytes P Q held p f = tt
both_some (Some x) a bytes P Q held p f = f x held p

held_fits : (o : Option (List ℕ)) (bytes : List ℕ) → o ≡ Some bytes → length bytes ≤ 1048576 → Fits o
held_fits o bytes is le = subst Fits (sym is) le

fitting_before : (e : Unread) (files : Option Files) (a : List ℕ) (names : List (List ℕ)) (bytes : List ℕ) (old mid new : Counts)
    → IfSome files (λ f. f a ≡ Some bytes) → length bytes ≤ 1048576 → NeverFall old mid
    → IsUnread e files names mid new → IsUnread e files (a ∷ names) old new
fitting_before (Unreadable name) files a names bytes old mid new held le falls u = record { one = later a names u.one; cause = causes u.cause }
  where
    causes : Rose mid.failed_reads new.failed_reads
        ⊎ (Rose mid.missing_reads new.missing_reads × IfSome files (λ f. IsFirstUnfit f (λ file. file ≡ None) names name.now))
        → Rose old.failed_reads new.failed_reads ⊎ (Rose old.missing_reads new.missing_reads
        × IfSome files (λ f. IsFirstUnfit f (λ file. file ≡ None) (a ∷ names) name.now))
    causes (inl rose) = inl (rose_later _ _ _ falls.failed_reads rose)
    causes (inr (rose, none)) = inr (
      rose_later _ _ _ falls.missing_reads rose,
      both_some files a bytes _ _ held none (λ f is p. behind name.now a names (held_fits (f a) bytes is le) p),
    )
fitting_before (TooLong name) files a names bytes old mid new held le falls u = record {
  one = later a names u.one;
  cause = rose_later _ _ _ falls.overlong_reads u.cause;
  overlong = both_some files a bytes _ _ held u.overlong (λ f is p. behind name.now a names (held_fits (f a) bytes is le) p);
}
fitting_before Memory files a names bytes old mid new held le falls u = tt

pub behind_unread : (e : Unread) (files now : Option Files) (a : List ℕ) (names : List (List ℕ)) (bytes : List ℕ) (old mid new : Counts)
    → IfSome files (λ f. f a ≡ Some bytes) → length bytes ≤ 1048576 → NeverFall old mid → now ≡ files
    → IsUnread e now names mid new → IsUnread e files (a ∷ names) old new
behind_unread e files now a names bytes old mid new held le falls same u =
    fitting_before e files a names bytes old mid new held le falls (subst (λ fs. IsUnread e fs names mid new) same u)

-- ---- an error that `?` hands on

pub handed_on : {A E : Type 0} (r : Result A E) (e : E) (P : E → Type 0) → IsErr r × IsErrAnd r (λ x. x ≡ e) → P e → IfErr r P
handed_on (Ok x) e P is p = tt
handed_on (Err x) e P is p = subst P (sym is.1) p
