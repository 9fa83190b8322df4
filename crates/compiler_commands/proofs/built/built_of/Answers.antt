use Rattle.std.proofs.Common.{refl}
use Rattle.task_ast.specs.View.{program_of}
use Rattle.source_maps.specs.Maps.{map_of}
use Rattle.plain_commands.proofs.command_answers.Interface.{handed_on}
use Rattle.compiler_commands.proofs.built.built_of.Goals as goal

pub returns-in_err-image-clause-failure : goal.returns-in_err-image-clause-failure
returns-in_err-image-clause-failure c = handed_on _ _ _ c.from_residual.ensures refl

pub returns-in_err-text-clause-failure : goal.returns-in_err-text-clause-failure
returns-in_err-text-clause-failure c = handed_on _ _ _ c.from_residual-in_err-text.ensures refl

pub returns-clause-built : goal.returns-clause-built
returns-clause-built c =
    let source = c.args.source.now in
    let compiled = c.in_ok-image.ensures in
    record {
      text = c.in_ok-text.ensures.text;
      reads_back = c.in_ok-text.ensures.reads_back;
      map = map_of source.text.items (program_of source.checked.source) compiled.layout source.allow;
      mapped = compiled.map;
      names = c.images_are_mapped.ensures _ _ _ _ _ c.requires.accepted compiled;
      bound = refl;
      compiled = compiled;
    }
