-- The chunk of a client's next byte cannot be read back (ours): that stands for the write, its entry is gone, and its name closed. The law
-- notes that it is gone with the disk, so that it leaves the event before; the program does all that lies between behind it.
use Rattle.std.specs.Prelude.{◌≡◌, ℕ, false, List, [], ◌∷◌, Option, None}
use Rattle.pp_due.specs.OnDisk.{next_on_disk}
use Rattle.pp_law.specs.After.{unread}
use Rattle.pp_law.specs.Followers.{give_up_asks}
use Rattle.pp_law.specs.Lists.{Bytes}
use Rattle.pp_law.specs.Phases.{in_phase}
use Rattle.pp_law.specs.Replies.{regained}
use Rattle.pp_law.specs.State.{State, Evicting, Keeping, Free}
use Rattle.pp_law.specs.Store.{note_gone}
use Rattle.pp_obeys.specs.Moves.{Leaves, Moves}
use Rattle.pp_peers.specs.declared.peers.Peer.{Peer}
use Rattle.pp_seats.specs.declared.seat.Seat.{Seat}
use Rattle.pp_state.specs.declared.state.State.{State as Turn}
use Rattle.pp_store.specs.Changes.{lost}
use Rattle.pp_store.specs.Kept.{KeptMap}
use Rattle.pp_talk.specs.Talking.{offered}
use Rattle.pp_target.specs.Name.{name_of}
use Rattle.pp_turns_law.specs.Rows.{AreReady}
use Rattle.pp_world.specs.Log.{AppendsAll, Log}
use Rattle.pp_world.specs.declared.happening.Happening.TheVariants.{Noted, Unread}
use Rattle.pp_world.specs.declared.note.Remark.TheVariants.{Gone}
use Rattle.pp_events_law.specs.ToLoad.{StandsInEvent}

-- the event was owed nothing before the write
pub record IsFirstOwed (s : State) : Type 0 where
  -- RegainsOnce of pp_turns_law, of what `event` leaves
  pub anew : regained s ≡ s
  -- `rest_with` of pp_law leaves it so, and no event changes it before its read or write
  pub evicting : s.is_evicting ≡ false
  pub forgotten : s.forgotten ≡ []

-- without the entry of the key
abbrev pub without_entry : Bytes → State → State
without_entry key s = note_gone key (unread (name_of key) s)

-- where nothing leaves memory, and asks that bring nothing are given up, the disk is next
abbrev pub at_disk : State → State
at_disk s = give_up_asks (in_phase Keeping (in_phase Evicting s))

-- the read is noted as one that failed; Handling and Evicting are left without a happening; and then the entry may be noted as gone
abbrev pub LeadsOut : Bytes → State → State → Type 0
LeadsOut key s t = Moves (Leaves (Leaves (Moves (λ u. u ≡ t) (Noted (Gone key))))) (Unread (name_of key)) s

-- what is of the disk alone changes, and that nothing is owed any more
abbrev pub IsLost : State → State → Type 0
IsLost s t = t ≡ record s { acknowledged = t.acknowledged; failures = t.failures; entries = t.entries; closed_names = t.closed_names; displaced = t.displaced; agenda = t.agenda; owed = t.owed }

-- the turn shows the law's state as it is without the entry; from there the law's is one that the phases between lead to
pub record HasLost (number : ℕ → ℕ) (peers : List Peer) (p q : Turn) (shelf behind : KeptMap) (seat : Seat) (old new : Option Log) (s : State) : Type 0 where
  pub key : Bytes
  pub told : AppendsAll old new (λ l. Unread (name_of key) ∷ Noted (Gone key) ∷ [])
  pub leads : LeadsOut key s (at_disk (without_entry key s))
  pub map : behind ≡ lost key shelf
  pub stands : StandsInEvent number Free peers q behind (without_entry key s)
  -- nothing has to be read any more before what is said next, and nothing is at hand
  pub held : next_on_disk q seat ≡ None
  pub none : offered seat.client.reply q.cache ≡ []
  -- all else is as it was, of the turn and of the law's state
  pub rest : record q { cache = record q.cache { extents = p.cache.extents } } ≡ p
  pub law : IsLost s (without_entry key s)
  -- attempts count anew no more than before
  pub anew : regained (without_entry key s) ≡ without_entry key s
  pub ready : AreReady number p.cache s.next_instance p.seats.items → AreReady number q.cache (without_entry key s).next_instance q.seats.items
