-- Faults of a constant as faults of a content.
use Rattle.wi_values.specs.declared.import.FieldFault.{FieldFault}
use Rattle.wi_values.specs.declared.import.FieldFault.TheVariants as field
use Rattle.wi_parser.specs.declared.fault.ParseFault.{ParseFault}
use Rattle.wi_parser.specs.declared.fault.ParseFault.TheVariants.{TooLong, Memory}

abbrev pub field_fault : FieldFault → ParseFault
field_fault field.TooLong = TooLong
field_fault field.Memory = Memory
