use Rattle.link_image.proofs.Names.{◌≡◌, ◌∙◌, ◌-◌, ◌/◌, ◌==◌, ℕ, List, if◌then◌else◌, ap, sym, subst, length, map, arith, slice_index, reset_vector}
use Rattle.link_image.proofs.Names.{SharedDeclaration, words_of, initial_words, MemoryMap, word_place, apart_of, linked, is_within, shared_word, instructions}
use Rattle.link_image.proofs.Names.{chained, end_of, length-map, PartsInOrder}
use Rattle.array_versions.specs.View.{programs_of}
use Rattle.linked_code.proofs.Interface.{in_order}
use Rattle.link_image.specs.Needs.{HasPlaces, TasksAreEmitted}
use Rattle.link_image.proofs.Bare.{bare_parts}
use Rattle.link_image.proofs.Emitted.{bare_count}
use Rattle.link_image.proofs.Names.{code_words, AreWords}
use Rattle.image_laws.specs.Words.{with_handler}
use Rattle.task_ast.specs.View as tree
use Rattle.link_image.proofs.linking.image_of.Goals as goal
use Rattle.lower.specs.Lowered.{lowered, bare_programs}
use Rattle.memory_map.specs.declared.words.RuntimeWord.TheVariants.{CurrentTask}
use Rattle.link_image.proofs.Placing.{zeros_are_words}

-- the word at an address, by the code, the declarations and the entry task
abbrev word_by : MemoryMap → List ℕ → List SharedDeclaration → ℕ → ℕ → ℕ
word_by l code ds entry a = if a == reset_vector then l.boot.address
    else with_handler l.runtime.events a (
    if is_within (record { address = l.boot.address; words = length code }) a then slice_index code ((a - l.boot.address) / 2)
    else if a == (word_place l CurrentTask) then entry
    else shared_word l.variables (map (λ d. initial_words d.extent) ds) a)

-- the programs that were made are the bare ones
pub code_words-requires-clause-places : goal.code_words-requires-clause-places
code_words-requires-clause-places c =
    let l = c.args.layout.now in
    let p = tree.program_of c.args.accepted.now.checked.source in
    let fits = c.requires.fits in
    let bare : map programs_of c.as_slice.result.now ≡ bare_programs l p = ap (map programs_of) c.as_slice.ensures.value ∙ c.in_ok-programs.ensures
    ∙ ap (λ ch. bare_programs l (tree.program_of ch.source)) c.checked-checked.ensures in
    subst (HasPlaces l) (sym bare) (record {
      rules = fits.rules;
      boot = fits.boot;
      commit = fits.commit;
      starts = fits.starts;
      order = subst (λ parts. PartsInOrder l.boot.address parts (end_of l.code)) (sym (bare_parts l p c.requires.own)) (in_order l (lowered l p) fits);
      high = fits.high;
    })

pub code_words-requires-clause-count : goal.code_words-requires-clause-count
code_words-requires-clause-count c =
    let l = c.args.layout.now in
    let p = tree.program_of c.args.accepted.now.checked.source in
    let bare : map programs_of c.as_slice.result.now ≡ bare_programs l p = ap (map programs_of) c.as_slice.ensures.value ∙ c.in_ok-programs.ensures
    ∙ ap (λ ch. bare_programs l (tree.program_of ch.source)) c.checked-checked.ensures in
    bare_count p.functions l p.tasks l.tasks c.requires.same_tasks ∙ sym (ap length bare) ∙ length-map c.as_slice.result.now programs_of

pub code_words-requires-clause-emitted : goal.code_words-requires-clause-emitted
code_words-requires-clause-emitted c =
    let l = c.args.layout.now in
    let p = tree.program_of c.args.accepted.now.checked.source in
    let bare : map programs_of c.as_slice.result.now ≡ bare_programs l p = ap (map programs_of) c.as_slice.ensures.value ∙ c.in_ok-programs.ensures
    ∙ ap (λ ch. bare_programs l (tree.program_of ch.source)) c.checked-checked.ensures in
    subst (TasksAreEmitted l.tasks) (sym bare) c.requires.emitted

pub put_image-requires-clause-room : goal.put_image-requires-clause-room
put_image-requires-clause-room c =
    let l = c.args.layout.now in
    let p = tree.program_of c.args.accepted.now.checked.source in
    let code : c.as_slice-3.result.now ≡ code_words p l =
    c.as_slice-3.ensures.value ∙ c.in_ok-code.ensures ∙ ap (λ ps. words_of (linked l (map programs_of ps))) c.as_slice.ensures.value
    ∙ ap (λ qs. words_of (linked l qs)) (c.in_ok-programs.ensures ∙ ap (λ ch. bare_programs l (tree.program_of ch.source)) c.checked-checked.ensures)
    ∙ ap (λ parts. words_of (instructions (chained l.boot.address parts))) (bare_parts l p c.requires.own) in
    let size = ap length code in
    let end = (c.linked_is_code.ensures l (lowered l p) c.requires.fits).end in
    let high = (apart_of l c.requires.fits.rules).high in
    omega (arith, size, end, high)

pub returns : goal.returns
returns c =
    let l = c.args.layout.now in
    let p = tree.program_of c.args.accepted.now.checked.source in
    let source : c.source-source.result.now ≡ c.args.accepted.now.checked.source = c.source-source.ensures ∙ ap (λ ch. ch.source) c.checked-checked.ensures in
    let code : c.as_slice-3.result.now ≡ code_words p l =
    c.as_slice-3.ensures.value ∙ c.in_ok-code.ensures ∙ ap (λ ps. words_of (linked l (map programs_of ps))) c.as_slice.ensures.value
    ∙ ap (λ qs. words_of (linked l qs)) (c.in_ok-programs.ensures ∙ ap (λ ch. bare_programs l (tree.program_of ch.source)) c.checked-checked.ensures)
    ∙ ap (λ parts. words_of (instructions (chained l.boot.address parts))) (bare_parts l p c.requires.own) in
    let shared : c.as_slice-2.result.now ≡ p.shared = c.as_slice-2.ensures.value ∙ ap (λ s. s.shared.items) source in
    let blank : AreWords c.in_ok-image.image.words = subst (λ i. AreWords i.words) (sym c.in_ok-image.ensures) (zeros_are_words 24064) in
    record {
      count = ap length (sym c.words-2.ensures.value) ∙ c.words-2.ensures.len;
      are_words = c.put_image.ensures.are_words blank;
      each = λ a is. c.put_image.ensures.each a is
          ∙ ap (λ x. word_by l x c.as_slice-2.result.now c.source-source.result.now.entry.task a) code
          ∙ ap (λ x. word_by l (code_words p l) x c.source-source.result.now.entry.task a) shared
          ∙ ap (λ s. word_by l (code_words p l) p.shared s.entry.task a) source;
    }
