-- How a command whose output is whole ends.

-- its output being whole, a command has done its work, met a machine fault, or found that a report isn't its source's
pub data Ending : Type 0 where
  well : Ending
  -- the run met a word that is no instruction, or a bus fault
  at_fault : Ending
  -- the report that was audited isn't one that the source could have told
  differs : Ending
