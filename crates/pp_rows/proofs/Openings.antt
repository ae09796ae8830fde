-- The verdicts of transcripts/openings.log, written by transcripts/make_rows.
use Rattle.std.proofs.Common.{◌≡◌, refl, ℕ, List, [], ◌∷◌, ◌++◌, true, false, Bool, Option, None, Some, codes}
use Rattle.std.specs.Prelude.{replicate, is_some}
use Rattle.pp_world.specs.Log.{Log}
use Rattle.pp_world.specs.declared.happening.Happening.{Happening}
use Rattle.pp_world.specs.declared.happening.Happening.TheVariants.{Woke, Waits, Clock, Opened, CanRead, CanWrite, Heard, HungUp, Said, Shut, Dialled, Undialled, Reached, Ended, Broke, Asked, Got, Dropped, NoneYet, Began, Did, Unread, Noted, Rooted, Listed, Listens, Configured, Printed, Stopped}
use Rattle.pp_world.specs.declared.note.Decision.TheVariants.{Refuse, Hit, Part, Head, NotModified, Unsatisfiable, Relay, Validate, Fetch, Pass}
use Rattle.pp_world.specs.declared.note.Cause.TheVariants.{Superseded, Origin, Short, Idle, Memory, Stop}
use Rattle.pp_world.specs.declared.note.Remark.TheVariants.{Taken, Cut, Kept, Gone, Forgotten, Evicted, Loaded}
use Rattle.pp_world.specs.declared.op.DiskOp.TheVariants.{Draft, SyncDraft, Publish, Write, Sync, Remove}
use Rattle.pp_law.specs.Lists.{Bytes}
use Rattle.pp_law.specs.State.{State, start}
use Rattle.pp_law.specs.Lawful.{fault_from, Fault, ImageNotLeft, OpeningOutOfOrder, EventOutOfTurn, ReadNotAskedFor, FailureMadeUp, WrongReply, WrongAsk, WrongDecision, WrongCut, NotToBeClosed, NotToBeDialled, NotToBeEvicted, NotToBeForgotten, NotToBeLoaded, NotSealed, NotGone, WrongDiskOperation, StepUnfinished, AcceptsWrongly, ClientForgotten, ConnectionForgotten, ExchangeForgotten, WantsTooMuch}
use Rattle.pp_pieces.proofs.Forced.{judge, arrived, judging, told, tell}

abbrev wait : Bool → List ℕ → List ℕ → Happening
wait accept read write = Waits (record { accept = accept; read = record { items = read }; write = record { items = write } })

abbrev text0 : Bytes
text0 = (codes "polipo-cache")

abbrev text1 : Bytes
text1 = (codes "proxyPort=8000")

abbrev text2 : Bytes
text2 = (codes "polipo: cannot read the cache\n")

abbrev text3 : Bytes
text3 = (codes "proxyPort = 9\n")

abbrev text4 : Bytes
text4 = (codes "proxyPort 9\n")

row3 : fault_from 0 (start (record { words = []; faults = 0 } ∷ [])) (Woke [] ∷ Rooted text0 ∷ Listed true ∷ Listens 8123 true ∷ wait true [] [] ∷ Stopped ∷ []) ≡ None
unfolding judging
row3 = refl

row11 : fault_from 0 (start (record { words = []; faults = 0 } ∷ [])) (Woke [] ∷ Rooted text0 ∷ Listens 8123 true ∷ []) ≡ Some (record { at = 2; rule = OpeningOutOfOrder })
unfolding judging
row11 = refl

row17 : fault_from 0 (start (record { words = []; faults = 0 } ∷ [])) (Woke [] ∷ Rooted (codes "tmp") ∷ []) ≡ Some (record { at = 1; rule = OpeningOutOfOrder })
unfolding judging
row17 = refl

row22 : fault_from 0 (start (record { words = []; faults = 0 } ∷ [])) (Woke [] ∷ Rooted text0 ∷ Listed true ∷ wait true [] [] ∷ []) ≡ Some (record { at = 3; rule = StepUnfinished })
unfolding judging
row22 = refl

row29 : fault_from 0 (start (record { words = []; faults = 0 } ∷ [])) (Woke [] ∷ Rooted text0 ∷ Listed true ∷ Listens 8123 true ∷ wait false [] [] ∷ []) ≡ Some (record { at = 4; rule = AcceptsWrongly })
unfolding judging
row29 = refl

row37 : fault_from 0 (start (record { words = []; faults = 0 } ∷ [])) (Woke [] ∷ Clock 5 ∷ []) ≡ Some (record { at = 1; rule = EventOutOfTurn })
unfolding judging
row37 = refl

row45 : fault_from 0 (start (record { words = text1 ∷ []; faults = 0 } ∷ [])) (Woke [] ∷ Rooted text0 ∷ Listed true ∷ Listens 8000 true ∷ wait true [] [] ∷ Stopped ∷ []) ≡ None
unfolding judging
row45 = refl

row53 : fault_from 0 (start (record { words = text1 ∷ []; faults = 0 } ∷ [])) (Woke [] ∷ Rooted text0 ∷ Listed true ∷ Listens 8123 true ∷ []) ≡ Some (record { at = 3; rule = OpeningOutOfOrder })
unfolding judging
row53 = refl

row63 : fault_from 0 (start (record { words = (codes "nonsense") ∷ []; faults = 0 } ∷ [])) (Woke [] ∷ Printed (codes "usage") ∷ []) ≡ None
unfolding judging
row63 = refl

row67 : fault_from 0 (start (record { words = (codes "nonsense") ∷ []; faults = 0 } ∷ [])) (Woke [] ∷ Printed (codes "usage") ∷ Rooted text0 ∷ []) ≡ Some (record { at = 2; rule = OpeningOutOfOrder })
unfolding judging
row67 = refl

row73 : fault_from 0 (start (record { words = (codes "nonsense") ∷ []; faults = 0 } ∷ [])) (Woke [] ∷ Printed (codes "usage") ∷ Listens 8123 true ∷ []) ≡ Some (record { at = 2; rule = OpeningOutOfOrder })
unfolding judging
row73 = refl

row82 : fault_from 0 (start (record { words = []; faults = 1 } ∷ [])) (Woke [] ∷ Rooted text0 ∷ Listed false ∷ Printed text2 ∷ []) ≡ None
unfolding judging
row82 = refl

row88 : fault_from 0 (start (record { words = []; faults = 1 } ∷ [])) (Woke [] ∷ Rooted text0 ∷ Listed false ∷ Listens 8123 true ∷ []) ≡ Some (record { at = 3; rule = OpeningOutOfOrder })
unfolding judging
row88 = refl

row95 : fault_from 0 (start (record { words = []; faults = 1 } ∷ [])) (Woke [] ∷ Rooted text0 ∷ Listed true ∷ Listens 8123 false ∷ wait true [] [] ∷ []) ≡ Some (record { at = 4; rule = StepUnfinished })
unfolding judging
row95 = refl

row106 : fault_from 0 (start (record { words = []; faults = 0 } ∷ [])) (Woke [] ∷ Rooted text0 ∷ Listed false ∷ []) ≡ Some (record { at = 2; rule = OpeningOutOfOrder })
unfolding judging
row106 = refl

row112 : fault_from 0 (start (record { words = []; faults = 0 } ∷ [])) (Woke [] ∷ Rooted text0 ∷ Listed true ∷ Listens 8123 false ∷ []) ≡ Some (record { at = 3; rule = OpeningOutOfOrder })
unfolding judging
row112 = refl

row122 : fault_from 0 (start (record { words = (codes "-c") ∷ (codes "f") ∷ []; faults = 0 } ∷ [])) (Woke [] ∷ Configured (codes "f") (Some text3) ∷ Rooted text0 ∷ Listed true ∷ Listens 9 true ∷ wait true [] [] ∷ []) ≡ None
unfolding judging
row122 = refl

row130 : fault_from 0 (start (record { words = (codes "-c") ∷ (codes "f") ∷ []; faults = 0 } ∷ [])) (Woke [] ∷ Rooted text0 ∷ []) ≡ Some (record { at = 1; rule = OpeningOutOfOrder })
unfolding judging
row130 = refl

row135 : fault_from 0 (start (record { words = (codes "-c") ∷ (codes "f") ∷ []; faults = 0 } ∷ [])) (Woke [] ∷ Configured (codes "g") (Some text3) ∷ []) ≡ Some (record { at = 1; rule = OpeningOutOfOrder })
unfolding judging
row135 = refl

row140 : fault_from 0 (start (record { words = (codes "-c") ∷ (codes "f") ∷ []; faults = 0 } ∷ [])) (Woke [] ∷ Configured (codes "f") (Some text3) ∷ Rooted text0 ∷ Listed true ∷ Listens 8123 true ∷ []) ≡ Some (record { at = 4; rule = OpeningOutOfOrder })
unfolding judging
row140 = refl

row148 : fault_from 0 (start (record { words = (codes "-c") ∷ (codes "f") ∷ []; faults = 0 } ∷ [])) (Woke [] ∷ Configured (codes "f") (Some text4) ∷ Rooted text0 ∷ []) ≡ Some (record { at = 2; rule = OpeningOutOfOrder })
unfolding judging
row148 = refl

row154 : fault_from 0 (start (record { words = (codes "-c") ∷ (codes "f") ∷ []; faults = 0 } ∷ [])) (Woke [] ∷ Configured (codes "f") None ∷ []) ≡ Some (record { at = 1; rule = OpeningOutOfOrder })
unfolding judging
row154 = refl

row162 : fault_from 0 (start (record { words = (codes "-c") ∷ ((255 ∷ [])) ∷ []; faults = 0 } ∷ [])) (Woke [] ∷ Printed (codes "usage") ∷ []) ≡ None
unfolding judging
row162 = refl

row166 : fault_from 0 (start (record { words = (codes "-c") ∷ ((255 ∷ [])) ∷ []; faults = 0 } ∷ [])) (Woke [] ∷ Configured ((255 ∷ [])) (Some text3) ∷ []) ≡ Some (record { at = 1; rule = OpeningOutOfOrder })
unfolding judging
row166 = refl
