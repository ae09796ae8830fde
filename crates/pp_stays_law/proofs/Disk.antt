-- What is kept on the disk stands for the law's entries, and there is room to note names, behind decisions, what nobody sees and closings.
use Rattle.std.proofs.Common.{◌≡◌, sym, subst, refl, ℕ, List, Option, Some, None}
use Rattle.pp_cache_law.specs.Outdated.{AreNoted}
use Rattle.pp_deciding_law.specs.Cuts.{behind_cut}
use Rattle.pp_deciding_law.specs.Takes.{behind_taken}
use Rattle.pp_law.specs.Followers.{give_up_asks}
use Rattle.pp_law.specs.Lists.{Bytes}
use Rattle.pp_law.specs.Phases.{in_phase}
use Rattle.pp_law.specs.State.{State, Term, Connecting}
use Rattle.pp_law.specs.Unseen.{drop_unseen}
use Rattle.pp_rounds_law.specs.Supplies.{followed}
use Rattle.pp_seats.specs.declared.due.Due.{Due}
use Rattle.pp_seats.specs.declared.due.Due.TheVariants.{Decide, CutOff}
use Rattle.pp_state.specs.Ends.{Parts, parts}
use Rattle.pp_state.specs.declared.state.State.{State as Turn}
use Rattle.pp_store.specs.Kept.{KeptMap}
use Rattle.pp_turns_law.specs.Firsts.{FirstDueInMemory}
use Rattle.pp_proxy.specs.Deciding.{TakesOne}
use Rattle.pp_proxy.specs.Moving.{Moving}
use Rattle.pp_world.specs.Log.{Log}
use Rattle.pp_stays_law.proofs.Alone.{room_stays}
use Rattle.pp_stays_law.proofs.Fits.{AnyEntry, AnySeat, IsNoting, any_entries, noting_suits}
use Rattle.pp_stays_law.proofs.Law.{cut_any, fill_any, given_up_any, phased, taken_any, unseen_any}
use Rattle.pp_stays_law.proofs.OnDisk.{IsKeptBy, any_disk, empty_disk}
use Rattle.pp_stays_law.proofs.Stepped.{found_fine, one_fine}
use Rattle.pp_stays_law.proofs.Walk.{Holds}
use Rattle.pp_stays_law.specs.Names.{HasRoomToNote}
use Rattle.pp_stays_law.specs.Steps.{StaysInDecisions}
use Rattle.pp_stays_law.specs.Turns.{IsNotedFor}

-- ---- in both words

pub kept_of : (shelf : KeptMap) (p : Turn) (s : State) → IsNotedFor shelf p s → IsKeptBy shelf p.cache.outdated s
kept_of shelf p s h = record { noted = h.noted; shows = h.shows; open_names = h.names }

pub noted_for : (shelf : KeptMap) (names : List Bytes) (q : Turn) (t : State) → q.cache.outdated ≡ names → IsKeptBy shelf names t → HasRoomToNote (parts q) → IsNotedFor shelf q t
noted_for shelf names q t same its room = record { shows = its.shows; noted = subst (λ (ns : List Bytes). AreNoted ns t.displaced t.entries) (sym same) its.noted; names = its.open_names; room = room }

-- the names of before
abbrev Noting : List Bytes → Parts → Type 0
Noting names p = Holds AnySeat AnyEntry AnyEntry (IsNoting names) p

pub noting : (p : Parts) → Holds AnySeat AnyEntry AnyEntry (IsNoting p.cache.outdated) p
noting p = record { seats = λ i seat at. tt; waiting = any_entries p.flow.waiting; placed = any_entries p.flow.placed; memory = refl }

found_noting : (shelf : KeptMap) (p q : Turn) (found : Option (ℕ × Due)) → FirstDueInMemory shelf p.awake.items p q found → Noting p.cache.outdated (parts q)
found_noting shelf p q found first = found_fine AnySeat AnyEntry AnyEntry (IsNoting p.cache.outdated) (noting_suits p.cache.outdated) shelf p.awake.items p q found first (noting (parts p))

one_noting : (names : List Bytes) (i : ℕ) (due : Due) (x y : Moving) (log : Log) → TakesOne i due x log y → Noting names (parts x.desk.state) → y.desk.state.cache.outdated ≡ names
one_noting names i due x y log takes h = (one_fine AnySeat AnyEntry AnyEntry (IsNoting names) (noting_suits names) i due x y log takes h).memory

module _ (terms : List Term) (shelf : KeptMap) where
  pub disk_in_decisions : StaysInDecisions terms shelf (IsNotedFor shelf)
  disk_in_decisions = record {
    taken = λ before i due p x y log s seat c at h next takes well then.
        noted_for shelf p.cache.outdated y.desk.state (behind_taken seat.client.id due s) (one_noting p.cache.outdated i (Decide due) x y log takes (found_noting shelf p x.desk.state (Some (i, Decide due)) next.first))
        (taken_any (IsKeptBy shelf p.cache.outdated) (any_disk shelf p.cache.outdated) seat.client.id due s (kept_of shelf p s h)) ((room_stays terms shelf).decisions.taken before i due p x y log s seat c at h.room next takes well then);
    cut = λ before i cause p x y log s seat c at h next takes well then.
        noted_for shelf p.cache.outdated y.desk.state (behind_cut seat.client.id s) (one_noting p.cache.outdated i (CutOff cause) x y log takes (found_noting shelf p x.desk.state (Some (i, CutOff cause)) next.first))
        (cut_any (IsKeptBy shelf p.cache.outdated) (any_disk shelf p.cache.outdated) seat.client.id s (kept_of shelf p s h)) ((room_stays terms shelf).decisions.cut before i cause p x y log s seat c at h.room next takes well then);
    none = λ before peers p q s at h none well then.
        noted_for shelf p.cache.outdated q s (found_noting shelf p q None none).memory (kept_of shelf p s h) ((room_stays terms shelf).decisions.none before peers p q s at h.room none well then);
  }

-- ---- of the law, in a round

pub kept_followed : (shelf : KeptMap) (names : List Bytes) (s : State) → IsKeptBy shelf names s → IsKeptBy shelf names (followed s)
kept_followed shelf names s its =
    fill_any (IsKeptBy shelf names) (any_disk shelf names) (give_up_asks (drop_unseen (in_phase Connecting s)))
    (given_up_any (IsKeptBy shelf names) (any_disk shelf names) (drop_unseen (in_phase Connecting s))
    (unseen_any (IsKeptBy shelf names) (any_disk shelf names) (empty_disk shelf names) (in_phase Connecting s) (phased (IsKeptBy shelf names) (any_disk shelf names) Connecting s its)))
