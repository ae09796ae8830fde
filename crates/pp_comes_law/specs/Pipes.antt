-- Amid a read of an origin the pipe of whoever a response is passed to has room for its data (RFC 2616, section 6).
--
-- A read brings no more bytes than the pipe has room for where it begins (read_room); of a response whose head comes with it nothing stood there
-- before (Bare), and what comes with one read is no more than a pipe holds.
--
-- Where the premises come from: what is owed and how much came is what the log permits; that no more is read the program's call of the wire has
-- (fits of IsBrought of `pp_reads_law`).
use Rattle.std.specs.Prelude.{◌≡◌, ℕ, true, List, Some}
use Rattle.pp_bodies_law.specs.Bytes.{FindsPipe}
use Rattle.pp_law.specs.Asking.{is_read, read_room}
use Rattle.pp_law.specs.Connections.{conn, front_of_line}
use Rattle.pp_law.specs.Lists.{Bytes}
use Rattle.pp_law.specs.State.{State, Answer, Conn, Exchange, Handling, ReadOf, Term}
use Rattle.pp_obeys.specs.Obeys.{Obeys}
use Rattle.pp_origins.specs.Gots.{Both}
use Rattle.pp_reads_law.specs.Brings.{IsMoment}
use Rattle.pp_reads_law.specs.Pieces.{data_in}
use Rattle.pp_states_law.specs.Charges.{IsFor}
use Rattle.pp_store.specs.Kept.{KeptMap}
use Rattle.pp_world.specs.Log.{Log}

-- at each moment of one that is owed, where the body of a response to the first exchange of the line is under way
abbrev pub PipesHaveRoom : Type 0
PipesHaveRoom = (terms : List Term) (log : Log) (pieces : ℕ) (name : Bytes) (shelf : KeptMap) (n : ℕ) (begins x : Both) (from s : State) (all bytes : Bytes) → Obeys terms from log → from.phase ≡ Handling → from.owed ≡ ReadOf n → is_read (read_room from n) all ≡ true
    → IsMoment pieces name shelf n begins from all x s bytes → (k : Conn) (a : Answer) (e : Exchange) → conn s n ≡ Some k → k.answer ≡ Some a → front_of_line s k ≡ Some e → IsFor s e (FindsPipe (data_in a bytes))
