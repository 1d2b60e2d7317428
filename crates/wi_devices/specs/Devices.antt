-- What is known of a reader that serves as a source, and of a writer that serves as a sink.
use Rattle.std.specs.Prelude.{ℕ, Bool}
use Rattle.wi_devices.specs.declared.read_from.ReadFrom.{ReadFrom}
use Rattle.wi_devices.specs.declared.write_to.WriteTo.{WriteTo}

-- the reader that is read from
abbrev pub reader_of : {R : Type 0} → ReadFrom R → R
reader_of s = s.inner

-- how many reads are still allowed
abbrev pub reads_left_of : {R : Type 0} → ReadFrom R → ℕ
reads_left_of s = s.left

-- whether a read has failed
abbrev pub read_failed : {R : Type 0} → ReadFrom R → Bool
read_failed s = s.failed

-- the writer that is written to
abbrev pub writer_of : {W : Type 0} → WriteTo W → W
writer_of s = s.inner

-- whether a write or a flush has failed
abbrev pub write_failed : {W : Type 0} → WriteTo W → Bool
write_failed s = s.failed

-- whether all that was written was flushed
abbrev pub is_flushed : {W : Type 0} → WriteTo W → Bool
is_flushed s = s.flushed
