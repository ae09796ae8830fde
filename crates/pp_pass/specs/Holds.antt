-- What the pipe keeps: its capacity, and the room for the last chunk of a body that is not finished.
use Rattle.std.specs.Prelude.{◌≡◌, ℕ, ◌+◌, ◌≤◌, Bool, true, false, length}
use Rattle.circular_buffer.specs.Buffer.{Buffer}
use Rattle.pp_pass.specs.Pipe.{pipe_len}

pub record HoldsLastChunk (held : Buffer ℕ) (is_coded is_finished : Bool) : Type 0 where
  pub capacity : held.capacity ≡ pipe_len
  pub within : length held.items ≤ pipe_len
  pub last_chunk : is_coded ≡ true → is_finished ≡ false → length held.items + 5 ≤ pipe_len
