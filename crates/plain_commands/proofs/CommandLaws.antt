-- What these commands make, from what their parts do.
use Rattle.std.proofs.Common.{◌≡◌, ◌∙◌, ℕ, List, [], ◌∷◌, None, Result, Ok, Err, refl, sym, ap, subst, IfOk, IfErr, ◌++◌, append-nil}
use Rattle.command_texts.specs.energy_trace.TraceValue.{TraceValue}
use Rattle.command_texts.specs.energy_trace.Reading.{trace_of}
use Rattle.command_texts.specs.image_text.ImageValue.{ImageValue}
use Rattle.command_texts.specs.image_text.Reading.{image_of}
use Rattle.fram_board.specs.Board.{BoardValue, fresh}
use Rattle.board_run.specs.History.{History, start_of}
use Rattle.source_values.specs.Runs.{CheckedProgram}
use Rattle.command_texts.specs.source_report.SourceReport.{IsMeanReport}
use Rattle.command_texts.specs.command_answers.declared.failure.Failure.{Failure}
use Rattle.command_texts.specs.command_answers.declared.failure.Failure.TheVariants.{Refused, Put, Write, Memory}
use Rattle.plain_commands.specs.declared.run.RunEnding.{RunEnding}
use Rattle.command_texts.specs.command_answers.CommandAnswers.{IsWhole}
use Rattle.command_texts.specs.cost_bound.declared.allowance.Allow.{Allow}
use Rattle.command_texts.specs.source_meaning.Acceptance.{IsAcceptedText}
use Rattle.command_texts.specs.source_meaning.Events.{HasNoEvent}
use Rattle.report_audit.specs.declared.verdict.Verdict.{Verdict}
use Rattle.report_audit.specs.Good.{IsVerdict}
use Rattle.plain_commands.specs.Verdicts.{verdict_line, verdict_ending}
use Rattle.command_texts.specs.command_answers.Ending.{Ending, well}
use Rattle.plain_commands.specs.Ends.{ending_of}
use Rattle.command_texts.specs.command_answers.Outcomes.{FailsBy, FailsWriting, Gains, FailsPutting}
use Rattle.command_texts.specs.command_answers.Outside.{Shelved, Written, WhereStands, WhereSilent}
use Rattle.command_texts.specs.command_answers.Promises.{Promise}
use Rattle.plain_commands.specs.Dis.{IsListing, dis_promise}
use Rattle.plain_commands.specs.RunReport.{IsReportFrom}
use Rattle.command_texts.specs.Sources.{IsSourceText}
use Rattle.plain_commands.proofs.RunLaws.{told_from}
use Rattle.std.specs.Io.KnownBytes.{Appends}
use Rattle.std.proofs.KnownBytes.{Appends-nil}
use Rattle.command_texts.specs.alp_io.Shelf.{Told, Sets}
use Rattle.plain_commands.specs.Asm.{Assembles, asm_promise}
use Rattle.command_texts.specs.image_text.text_parts.Printed.{printed}
use Rattle.command_texts.specs.image_text.Text.{text_of, map_part}
use Rattle.command_texts.specs.msp_asm.Assembled.{assembled}
use Rattle.command_texts.specs.command_answers.declared.status.Status.TheVariants.{Refused}
use Rattle.plain_commands.specs.Mean.{mean_promise}
use Rattle.plain_commands.specs.Run.{run_promise}
use Rattle.plain_commands.specs.Audit.{audit_promise}
use Rattle.command_texts.proofs.command_answers.Interface.{output_alone, none_put, whole_by, fails_by, put_whole, put_fails}

-- ---- a command that writes the report of a run

pub report_whole : (result : Result RunEnding Failure) (b : BoardValue) (h : History) (t : TraceValue) (promise : Promise) (texts : List (List ℕ))
    (out : Written)
    → promise.puts ≡ None
    → ((ending : Ending) (output : List ℕ) → IsReportFrom b h t ending output → promise.makes texts (output_alone output ending))
    → IfOk result (λ ending. Gains out (IsReportFrom b h t (ending_of ending)))
    → IfOk result (λ ending. WhereStands (λ shelf. IsWhole promise texts (ending_of ending) shelf out))
report_whole (Ok ending) b h t promise texts out none is gains = λ shelf stands. record {
  product = output_alone gains.0 (ending_of ending);
  is = is (ending_of ending) gains.0 gains.1;
  ends = refl;
  put = none_put promise shelf none stands;
  written = gains.2;
}
report_whole (Err e) b h t promise texts out none is gains = tt

pub report_fails : (result : Result RunEnding Failure) (b : BoardValue) (h : History) (t : TraceValue) (promise : Promise) (texts : List (List ℕ))
    (out : Written)
    → promise.puts ≡ None
    → ((ending : Ending) (output : List ℕ) → IsReportFrom b h t ending output → promise.makes texts (output_alone output ending))
    → IfErr result (λ e. FailsWriting e out (λ output. (ending : Ending) × IsReportFrom b h t ending output))
    → IfErr result (λ e. WhereStands (λ shelf. FailsBy e promise texts shelf out))
report_fails (Ok ending) b h t promise texts out none is fails = tt
report_fails (Err (Refused file r)) b h t promise texts out none is fails = absurd fails
report_fails (Err (Put name)) b h t promise texts out none is fails = absurd fails
report_fails (Err Write) b h t promise texts out none is fails = λ shelf stands. record {
  product = output_alone fails.0 fails.1.0;
  is = is fails.1.0 fails.0 fails.1.1;
  put = none_put promise shelf none stands;
  written = fails.2;
  failed = fails.3;
}
report_fails (Err Memory) b h t promise texts out none is fails = λ shelf stands. (stands, fails)

pub run_product : (a b image trace : List ℕ) (i : ImageValue) (t : TraceValue) (board : BoardValue)
    → image_of image ≡ Ok i → trace_of trace ≡ Ok t → board ≡ fresh i.words t.readings t.events
    → (ending : Ending) (output : List ℕ) → IsReportFrom board (start_of i) t ending output
    → (run_promise a b).makes (image ∷ trace ∷ []) (output_alone output ending)
run_product a b image trace i t board image_said trace_said is_board ending output r =
    let report = told_from board (fresh i.words t.readings t.events) (start_of i) (start_of i) t is_board refl ending output r in
    (record { value = i; charges = t; image_said = image_said; trace_said = trace_said; report = report }, refl)

pub whole_as : (promise : Promise) (texts : List (List ℕ)) (shelf : Shelved) (out : Written) (e f : RunEnding) → e ≡ f
    → IsWhole promise texts (ending_of e) shelf out → IsWhole promise texts (ending_of f) shelf out
whole_as promise texts shelf out e f same whole = subst (λ x. IsWhole promise texts (ending_of x) shelf out) same whole

-- ---- `mean`, whose source keeps its text

mean_product : (a b source trace text : List ℕ) (p : CheckedProgram) (t : TraceValue) → text ≡ source → IsSourceText source p → trace_of trace ≡ Ok t
    → (output : List ℕ) → IsMeanReport text p t.readings output → (mean_promise a b).makes (source ∷ trace ∷ []) (output_alone output well)
mean_product a b source trace text p t kept source_said trace_said output is = (
  record { program = p; value = t; source_said = source_said; trace_said = trace_said; report = subst (λ x. IsMeanReport x p t.readings output) kept is },
  refl,
  refl,
)

pub mean_whole : {A : Type 0} (result : Result A Failure) (a b source trace text : List ℕ) (p : CheckedProgram) (t : TraceValue) (out : Written)
    → text ≡ source → IsSourceText source p → trace_of trace ≡ Ok t → IfOk result (λ x. Gains out (IsMeanReport text p t.readings))
    → IfOk result (λ x. WhereStands (λ shelf. IsWhole (mean_promise a b) (source ∷ trace ∷ []) well shelf out))
mean_whole result a b source trace text p t out kept source_said trace_said gains =
    whole_by result (IsMeanReport text p t.readings) (mean_promise a b) (source ∷ trace ∷ []) well out refl
    (mean_product a b source trace text p t kept source_said trace_said) gains

pub mean_fails : {A : Type 0} (result : Result A Failure) (a b source trace text : List ℕ) (p : CheckedProgram) (t : TraceValue) (out : Written)
    → text ≡ source → IsSourceText source p → trace_of trace ≡ Ok t → IfErr result (λ e. FailsWriting e out (IsMeanReport text p t.readings))
    → IfErr result (λ e. WhereStands (λ shelf. FailsBy e (mean_promise a b) (source ∷ trace ∷ []) shelf out))
mean_fails result a b source trace text p t out kept source_said trace_said fails =
    fails_by result (IsMeanReport text p t.readings) (mean_promise a b) (source ∷ trace ∷ []) well out refl
    (mean_product a b source trace text p t kept source_said trace_said) fails

-- ---- `dis`

pub dis_whole : {A : Type 0} (result : Result A Failure) (a image : List ℕ) (i : ImageValue) (out : Written)
    → image_of image ≡ Ok i → IfOk result (λ x. Gains out (IsListing i.words))
    → IfOk result (λ x. WhereStands (λ shelf. IsWhole (dis_promise a) (image ∷ []) well shelf out))
dis_whole result a image i out said gains =
    whole_by result (IsListing i.words) (dis_promise a) (image ∷ []) well out refl
    (λ output is. (record { value = i; said = said; listing = is }, refl, refl)) gains

pub dis_fails : {A : Type 0} (result : Result A Failure) (a image : List ℕ) (i : ImageValue) (out : Written)
    → image_of image ≡ Ok i → IfErr result (λ e. FailsWriting e out (IsListing i.words))
    → IfErr result (λ e. WhereStands (λ shelf. FailsBy e (dis_promise a) (image ∷ []) shelf out))
dis_fails result a image i out said fails =
    fails_by result (IsListing i.words) (dis_promise a) (image ∷ []) well out refl
    (λ output is. (record { value = i; said = said; listing = is }, refl, refl)) fails

-- ---- `audit`, whose source keeps its text

pub audit_product : (a b c source report trace text : List ℕ) (p : CheckedProgram) (w : Allow) (t : TraceValue) (v : Verdict) → text ≡ source
    → IsAcceptedText source p w → ((other : CheckedProgram) (price : Allow) → IsAcceptedText source other price → (other ≡ p) × (price ≡ w))
    → HasNoEvent text → trace_of trace ≡ Ok t → IsVerdict text p w.cycles t.readings report v
    → (audit_promise a b c).makes (source ∷ report ∷ trace ∷ []) (output_alone (verdict_line v) (verdict_ending v))
audit_product a b c source report trace text p w t v kept accepted only none trace_said says =
    let P : List ℕ → Type 0 = λ x. IsVerdict x p w.cycles t.readings report v in (
      record {
        program = p;
        allow = w;
        value = t;
        verdict = v;
        accepted = accepted;
        only = only;
        no_event = subst HasNoEvent kept none;
        trace_said = trace_said;
        says = subst P kept says;
        ends = refl;
        line = refl;
      },
      refl,
    )

-- ---- `asm`, which writes nothing

no_lines : printed [] ≡ []
unfolding printed
no_lines = refl

-- what is printed of an image without a map
pub is_printed : (assembly file : List ℕ) (image : ImageValue) → assembled assembly ≡ Ok image.words → image.map ≡ None
    → file ≡ text_of image.words ++ printed (map_part image.map) → image_of file ≡ Ok image → Assembles assembly file
is_printed assembly file image said none text back = record {
  words = image.words;
  said = said;
  text = text ∙ ap (λ m. text_of image.words ++ printed (map_part m)) none ∙ ap (λ l. text_of image.words ++ l) no_lines ∙ append-nil (text_of image.words);
  reads_back = back ∙ ap (λ m. Ok (record { words = image.words; map = m })) none;
}

pub asm_whole : {A : Type 0} (result : Result A Failure) (a i assembly file bytes : List ℕ) (shelf : Shelved) → Assembles assembly file → bytes ≡ file
    → IfOk result (λ x. Told shelf.old shelf.new (Sets i bytes)) → IfOk result (λ x. WhereSilent (IsWhole (asm_promise a i) (assembly ∷ []) well shelf))
asm_whole (Ok x) a i assembly file bytes shelf is same put = λ out silent.
    put_whole (λ output. output ≡ []) (asm_promise a i) (assembly ∷ []) i file bytes shelf out refl (λ output none. (is, none, refl)) same put
    ([], refl, subst (λ now. Appends out.old now []) (sym silent) (Appends-nil out.old))
asm_whole (Err e) a i assembly file bytes shelf is same put = tt

pub asm_fails : {A : Type 0} (result : Result A Failure) (a i assembly file : List ℕ) (shelf : Shelved) → Assembles assembly file
    → IfErr result (λ e. FailsPutting e i shelf) → IfErr result (λ e. WhereSilent (FailsBy e (asm_promise a i) (assembly ∷ []) shelf))
asm_fails (Ok x) a i assembly file shelf is fails = tt
asm_fails (Err e) a i assembly file shelf is fails =
    λ out silent. put_fails e (asm_promise a i) (assembly ∷ []) i file [] shelf out refl (is, refl, refl) silent fails
