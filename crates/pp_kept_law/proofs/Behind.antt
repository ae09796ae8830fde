-- A turn that shows the law's state shows it behind its keeping.
use Rattle.std.proofs.Common.{◌≡◌, ◌<◌, refl, sym, subst, ap, ℕ, true, List, [], ◌∷◌, Option, Some, None}
use Rattle.pp_cache.specs.Memory.{Memory}
use Rattle.pp_cache_law.specs.Tables.{ShowsCache}
use Rattle.pp_flow.specs.Entries.{Span}
use Rattle.pp_flow.specs.declared.entry.Entry.{Entry}
use Rattle.pp_flow_law.proofs.Framed.{frames as flow_frames}
use Rattle.pp_flow_law.specs.Tables.{Leaving}
use Rattle.pp_keeps_law.specs.Keeps.{HasKept, on_disk}
use Rattle.pp_law.specs.Connections.{exchange}
use Rattle.pp_law.specs.State.{State}
use Rattle.pp_objects.specs.Instances.{Instance, is_there}
use Rattle.pp_objects.specs.declared.id.ObjectId.{ObjectId}
use Rattle.pp_peers.specs.declared.peers.Peer.{Peer}
use Rattle.pp_state.specs.Ends.{parts}
use Rattle.pp_state.specs.declared.state.State.{State as Turn}
use Rattle.pp_states_law.proofs.Asked.{all_as, frames, itself}
use Rattle.pp_states_law.specs.Told.{AreTold, EachIsTold, IsTold, IsToldBy}
use Rattle.pp_store.specs.Kept.{KeptMap}
use Rattle.pp_turns_law.specs.Turns.{ShowsTurn}
use Rattle.pp_kept_law.specs.Turns.{IsBeside, TurnsAreShown}

-- ---- what is told by its number is told so still

module _ (number : ℕ → ℕ) (m k : Memory) (next : ℕ) (lives : k.lives ≡ m.lives) (instances : k.instances ≡ m.instances) where
  still_told : (id : ObjectId) → IsTold number m next id → IsTold number k next id
  still_told id told = record {
    given = subst (λ (n : ℕ). id.life < n) (sym lives) told.given;
    made = told.made;
    apart = λ other there. told.apart other (subst (λ (is : List Instance). is_there other is ≡ true) instances there);
  }

  still_by : (o : Option Span) → IsToldBy number m next o → IsToldBy number k next o
  still_by None told = tt
  still_by (Some b) told = still_told b.0 told

  each_still : (xs : List Entry) → EachIsTold number m next xs → EachIsTold number k next xs
  each_still [] all = tt
  each_still (x ∷ xs) all = (still_by x.exchange.bound all.0, each_still xs all.1)

-- ---- all of it

module _ (number : ℕ → ℕ) (l : Leaving) (peers : List Peer) (p q : Turn) (shelf : KeptMap) (s t : State) (shows : ShowsTurn number l peers p s) (beside : IsBeside p q) (kept : HasKept number q shelf s t) where
  abbrev u : State
  u = on_disk t s

  abbrev r : Turn
  r = record p { cache = q.cache; has_lost_draft = q.has_lost_draft; is_astray = q.is_astray }

  table : ShowsCache number q.cache u
  table = subst (λ (v : State). ShowsCache number q.cache v) kept.rest kept.stands.cache

  told : AreTold number q.cache s.next_instance p.flow
  told = record {
    waiting = each_still number p.cache q.cache s.next_instance beside.same.lives beside.same.instances p.flow.waiting shows.steps.told.waiting;
    placed = each_still number p.cache q.cache s.next_instance beside.same.lives beside.same.instances p.flow.placed shows.steps.told.placed;
  }

  shown : ShowsTurn number l peers r u
  shown = record {
    steps = record {
      shows = record {
        clients = shows.steps.shows.clients;
        exchanges = flow_frames number l (parts p).flow s shows.steps.shows.exchanges l u (record { exchanges = refl; next = refl; lines = λ k. refl });
        table = table;
        conns = frames s u peers s.conns (all_as s u (λ k. itself (exchange s k)) s.conns) shows.steps.shows.conns;
      };
      order = shows.steps.order;
      told = told;
      refused = shows.steps.refused;
    };
    name = shows.name;
    shares = shows.shares;
    clock = shows.clock;
    ticked = shows.ticked;
    stopped = shows.stopped;
    bounded = kept.stands.bounded;
  }

  turn_is : q ≡ r
  turn_is = ap (λ (v : Turn). record v { cache = q.cache; has_lost_draft = q.has_lost_draft; is_astray = q.is_astray }) beside.rest

  shown_behind : ShowsTurn number l peers q t
  shown_behind = subst (λ (v : State). ShowsTurn number l peers q v) (sym kept.rest) (subst (λ (v : Turn). ShowsTurn number l peers v u) (sym turn_is) shown)

pub shown_still : TurnsAreShown
shown_still number l peers p q shelf s t shows beside kept = shown_behind number l peers p q shelf s t shows beside kept
