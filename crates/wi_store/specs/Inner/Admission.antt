-- What limits admit.
use Rattle.std.specs.Prelude.{ℕ, Result, Ok, Err, nat_lt, nat_le, if◌then◌else◌}
use Rattle.wi_store.specs.declared.limits.Limits.{Limits}
use Rattle.wi_store.specs.declared.fault.StoreFault.{StoreFault}
use Rattle.wi_store.specs.declared.fault.StoreFault.TheVariants.{Full, EditLimit}

-- so many occupied cells, if the limits admit them and one edit more
abbrev pub admitted : Limits → ℕ → ℕ → Result ℕ StoreFault
admitted limits cells edits =
    if nat_lt limits.cells cells then Err Full
    else (if nat_le limits.edits edits then Err EditLimit else Ok cells)
