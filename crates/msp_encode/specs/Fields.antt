-- The fields of an operand as a row of the tables of addressing modes.
use Rattle.std.specs.Option.{option_to_list}
use Rattle.msp_isa.specs.Encoding.{Row, row}
use Rattle.msp_encode.specs.declared.fields.Fields.{Fields}

-- the row that these fields are
abbrev pub row_of : Fields → Row
row_of f = row f.mode f.register (option_to_list f.extension)
