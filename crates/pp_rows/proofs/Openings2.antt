-- The verdicts of transcripts/openings2.log, written by transcripts/make_rows.
use Rattle.std.proofs.Common.{◌≡◌, refl, ℕ, List, [], ◌∷◌, ◌++◌, true, false, Bool, Option, None, Some, codes}
use Rattle.std.specs.Prelude.{replicate, is_some}
use Rattle.pp_world.specs.Log.{Log}
use Rattle.pp_world.specs.declared.happening.Happening.{Happening}
use Rattle.pp_world.specs.declared.happening.Happening.TheVariants.{Woke, Waits, Clock, Opened, CanRead, CanWrite, Heard, HungUp, Said, Shut, Dialled, Undialled, Reached, Ended, Broke, Asked, Got, Dropped, NoneYet, Began, Did, Unread, Noted, Rooted, Listed, Listens, Configured, Printed, Stopped}
use Rattle.pp_world.specs.declared.note.Decision.TheVariants.{Refuse, Hit, Part, Head, NotModified, Unsatisfiable, Relay, Validate, Fetch, Pass}
use Rattle.pp_world.specs.declared.note.Cause.TheVariants.{Superseded, Origin, Short, Idle, Memory, Stop}
use Rattle.pp_world.specs.declared.note.Remark.TheVariants.{Taken, Cut, Kept, Gone, Forgotten, Evicted, Loaded}
use Rattle.pp_world.specs.declared.op.DiskOp.TheVariants.{Draft, SyncDraft, Publish, Write, Sync, Remove}
use Rattle.pp_law.specs.Lists.{Bytes}
use Rattle.pp_law.specs.State.{State, start}
use Rattle.pp_law.specs.Lawful.{fault_from, Fault, ImageNotLeft, OpeningOutOfOrder, EventOutOfTurn, ReadNotAskedFor, FailureMadeUp, WrongReply, WrongAsk, WrongDecision, WrongCut, NotToBeClosed, NotToBeDialled, NotToBeEvicted, NotToBeForgotten, NotToBeLoaded, NotSealed, NotGone, WrongDiskOperation, StepUnfinished, AcceptsWrongly, ClientForgotten, ConnectionForgotten, ExchangeForgotten, WantsTooMuch}
use Rattle.pp_pieces.proofs.Forced.{judge, arrived, judging, told, tell}

abbrev wait : Bool → List ℕ → List ℕ → Happening
wait accept read write = Waits (record { accept = accept; read = record { items = read }; write = record { items = write } })

abbrev text0 : Bytes
text0 = (codes "polipo-cache")

row3 : fault_from 0 (start (record { words = []; faults = 0 } ∷ [])) (Woke (((codes "a"), (codes "x")) ∷ ((codes "a"), (codes "y")) ∷ []) ∷ []) ≡ Some (record { at = 0; rule = ImageNotLeft })
unfolding judging
row3 = refl

row11 : fault_from 0 (start (record { words = []; faults = 0 } ∷ record { words = []; faults = 2 } ∷ [])) (Woke [] ∷ Rooted text0 ∷ Listed true ∷ Listens 8123 true ∷ wait true [] [] ∷ Clock 784111777 ∷ wait true [] [] ∷ Woke [] ∷ Rooted text0 ∷ Listed true ∷ Unread (codes "a") ∷ Unread (codes "a") ∷ []) ≡ Some (record { at = 11; rule = NotToBeLoaded })
unfolding judging
row11 = refl

row20 : fault_from 0 (start (record { words = []; faults = 0 } ∷ record { words = []; faults = 2 } ∷ [])) (Woke [] ∷ Rooted text0 ∷ Listed true ∷ Listens 8123 true ∷ wait true [] [] ∷ Clock 784111777 ∷ wait true [] [] ∷ Woke [] ∷ Rooted text0 ∷ Listed true ∷ Unread (codes "a") ∷ Unread (codes "b") ∷ Listens 8123 true ∷ wait true [] [] ∷ []) ≡ None
unfolding judging
row20 = refl
