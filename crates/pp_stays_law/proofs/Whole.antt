-- All that stands in a turn beside what it shows stands behind each step of its decisions and rounds.
use Rattle.std.proofs.Common.{sym, subst, List}
use Rattle.pp_desk.specs.Shutting.{all_over}
use Rattle.pp_law.specs.State.{Term}
use Rattle.pp_rounds_law.specs.Supplies.{followed}
use Rattle.pp_state.specs.Ends.{parts}
use Rattle.pp_store.specs.Kept.{KeptMap}
use Rattle.pp_world.specs.Log.{Log}
use Rattle.pp_stays_law.proofs.Alone.{given_stays, room_stays, texts_stay}
use Rattle.pp_stays_law.proofs.Bodies.{closings_count, decisions_count, silence_counts}
use Rattle.pp_stays_law.proofs.Disk.{disk_in_decisions, kept_followed, kept_of, noted_for, noting}
use Rattle.pp_stays_law.proofs.Events.{AreClosings, all_close, closings_fine}
use Rattle.pp_stays_law.proofs.Fits.{AnyEntry, AnySeat, IsNoting, noting_suits}
use Rattle.pp_stays_law.proofs.OnDisk.{IsKeptBy, any_disk, put_disk}
use Rattle.pp_stays_law.proofs.Placed.{places_counted, places_noted}
use Rattle.pp_stays_law.proofs.Stepped.{closed_fine}
use Rattle.pp_stays_law.proofs.Unseen.{silent_fine}
use Rattle.pp_stays_law.specs.Steps.{StaysInATurn, StaysInDecisions, StaysInRounds}
use Rattle.pp_stays_law.specs.Turns.{IsNotedFor, StandsInTurn}

module _ (terms : List Term) (shelf : KeptMap) where
  -- ---- what is kept on the disk

  pub disk_in_rounds : StaysInRounds terms shelf (IsNotedFor shelf)
  disk_in_rounds = record {
    silent = λ before number x seen given asked s obeys amid may counted h phase none drops gives fills later then well.
        noted_for shelf x.desk.state.cache.outdated asked.state (followed s)
        (silent_fine number shelf x seen given asked s amid may counted drops gives fills AnySeat AnyEntry AnyEntry (IsNoting x.desk.state.cache.outdated) (noting_suits x.desk.state.cache.outdated) (λ e its. tt) (noting (parts x.desk.state))).memory
        (kept_followed shelf x.desk.state.cache.outdated s (kept_of shelf x.desk.state s h))
        ((room_stays terms shelf).rounds.silent before number x seen given asked s obeys amid may counted h.room phase none drops gives fills later then well);
    closed = λ before number x y log s t obeys amid h phase over leads later then well.
        noted_for shelf x.desk.state.cache.outdated y.desk.state t
        (closed_fine AnySeat AnyEntry AnyEntry (IsNoting x.desk.state.cache.outdated) (noting_suits x.desk.state.cache.outdated) x y log over (noting (parts x.desk.state))).memory
        (closings_fine (IsKeptBy shelf x.desk.state.cache.outdated) (any_disk shelf x.desk.state.cache.outdated) (put_disk shelf x.desk.state.cache.outdated) log s t
        (subst (λ (hs : Log). AreClosings hs) (sym over.log_is) (all_close (all_over x.desk) x.links)) (record { at = phase; none = amid.none }) leads (kept_of shelf x.desk.state s h))
        ((room_stays terms shelf).rounds.closed before number x y log s t obeys amid h.room phase over leads later then well);
    placed = λ before number x y log s t obeys amid h phase closed dials places leads done later then well. places_noted terms shelf before number x y log s t obeys amid h phase closed dials places leads;
  }

  pub disk_stays : StaysInATurn terms shelf (IsNotedFor shelf)
  disk_stays = record { decisions = disk_in_decisions terms shelf; rounds = disk_in_rounds }

  -- ---- all of it

  decisions_stand : StaysInDecisions terms shelf (StandsInTurn shelf)
  decisions_stand = record {
    taken = λ before i due p x y log s seat c at h next takes well then. record {
      given = (given_stays terms shelf).decisions.taken before i due p x y log s seat c at h.given next takes well then;
      texts = (texts_stay terms shelf).decisions.taken before i due p x y log s seat c at h.texts next takes well then;
      counted = (decisions_count terms shelf).taken before i due p x y log s seat c at h.counted next takes well then;
      disk = (disk_in_decisions terms shelf).taken before i due p x y log s seat c at h.disk next takes well then;
    };
    cut = λ before i cause p x y log s seat c at h next takes well then. record {
      given = (given_stays terms shelf).decisions.cut before i cause p x y log s seat c at h.given next takes well then;
      texts = (texts_stay terms shelf).decisions.cut before i cause p x y log s seat c at h.texts next takes well then;
      counted = (decisions_count terms shelf).cut before i cause p x y log s seat c at h.counted next takes well then;
      disk = (disk_in_decisions terms shelf).cut before i cause p x y log s seat c at h.disk next takes well then;
    };
    none = λ before peers p q s at h none well then. record {
      given = (given_stays terms shelf).decisions.none before peers p q s at h.given none well then;
      texts = (texts_stay terms shelf).decisions.none before peers p q s at h.texts none well then;
      counted = (decisions_count terms shelf).none before peers p q s at h.counted none well then;
      disk = (disk_in_decisions terms shelf).none before peers p q s at h.disk none well then;
    };
  }

  rounds_stand : StaysInRounds terms shelf (StandsInTurn shelf)
  rounds_stand = record {
    silent = λ before number x seen given asked s obeys amid may counted h phase none drops gives fills later then well. record {
      given = (given_stays terms shelf).rounds.silent before number x seen given asked s obeys amid may counted h.given phase none drops gives fills later then well;
      texts = (texts_stay terms shelf).rounds.silent before number x seen given asked s obeys amid may counted h.texts phase none drops gives fills later then well;
      counted = silence_counts terms shelf before number x seen given asked s amid may counted drops gives fills later then;
      disk = disk_in_rounds.silent before number x seen given asked s obeys amid may counted h.disk phase none drops gives fills later then well;
    };
    closed = λ before number x y log s t obeys amid h phase over leads later then well. record {
      given = (given_stays terms shelf).rounds.closed before number x y log s t obeys amid h.given phase over leads later then well;
      texts = (texts_stay terms shelf).rounds.closed before number x y log s t obeys amid h.texts phase over leads later then well;
      counted = closings_count terms shelf before number x y log s t obeys amid h.counted phase over leads then;
      disk = disk_in_rounds.closed before number x y log s t obeys amid h.disk phase over leads later then well;
    };
    placed = λ before number x y log s t obeys amid h phase closed dials places leads done later then well. record {
      given = (given_stays terms shelf).rounds.placed before number x y log s t obeys amid h.given phase closed dials places leads done later then well;
      texts = (texts_stay terms shelf).rounds.placed before number x y log s t obeys amid h.texts phase closed dials places leads done later then well;
      counted = places_counted terms shelf before number x y log s t obeys amid h.disk phase closed dials places leads h.counted then;
      disk = disk_in_rounds.placed before number x y log s t obeys amid h.disk phase closed dials places leads done later then well;
    };
  }

  pub turns_stand : StaysInATurn terms shelf (StandsInTurn shelf)
  turns_stand = record { decisions = decisions_stand; rounds = rounds_stand }
