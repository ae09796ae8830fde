-- Of the law: heads, and the ends of responses, use no chunk that was not used before, and begin no eviction.
use Rattle.std.proofs.Common.{◌≡◌, ◌≤◌, refl, ℕ, Bool, length, le_refl, le_trans}
use Rattle.pp_law.specs.Connections.{on_conn, on_exchange, unplaced}
use Rattle.pp_law.specs.Responses.{answer_with, answered_by}
use Rattle.pp_law.specs.State.{State, Conn}
use Rattle.pp_laws_bounds.proofs.Counts.{length-filter}
use Rattle.pp_laws_pool.proofs.View.{Holds, View, Walk, facts_of, holds, view}
use Rattle.pp_laws_pool.proofs.WalkHeads.{bring_row-keeps, by_aim-keeps}
use Rattle.pp_laws_pool.proofs.WalkPieces.{bad_head-keeps, bad_response-keeps, finish-keeps}
use Rattle.pp_joints_law.specs.DataTies.{IsNoMore, NoMoreAreUsed}

pub record Less (begun : Bool) (most : ℕ) (v : View) : Type 0 where
  pub evicting : v.is_evicting ≡ begun
  pub few : length v.chunks ≤ most

placed_again : (begun : Bool) (most n : ℕ) (s : State) → Less begun most (view s) → Less begun most (view (on_exchange n unplaced s))
unfolding on_exchange
placed_again begun most n s h = record { evicting = h.evicting; few = h.few }

pub walk : (begun : Bool) (most : ℕ) → Walk (Less begun most)
walk begun most = record {
  clients = λ f number v h. record { evicting = h.evicting; few = h.few };
  asks = λ f same v h. record { evicting = h.evicting; few = h.few };
  left = λ test v h. record { evicting = h.evicting; few = h.few };
  over = λ test v h. record { evicting = h.evicting; few = h.few };
  conns = λ f lesser v h. record { evicting = h.evicting; few = h.few };
  chunks = λ test v h. record { evicting = h.evicting; few = le_trans (length-filter test v.chunks) h.few };
  again = λ n s may h. placed_again begun most n s h;
}

pub set_less : (begun : Bool) (most n : ℕ) (f : Conn → Conn) (s : State) → Holds (Less begun most) s → Holds (Less begun most) (on_conn n f s)
unfolding on_conn
set_less begun most n f s h = let now : Less begun most (view s) = facts_of h in holds (record { evicting = now.evicting; few = now.few })

pub first : (s : State) → Holds (Less s.is_evicting (length s.chunks)) s
first s = holds (record { evicting = refl; few = le_refl (length s.chunks) })

no_more : (s t : State) → Holds (Less s.is_evicting (length s.chunks)) t → IsNoMore s t
no_more s t h = let now : Less s.is_evicting (length s.chunks) (view t) = facts_of h in record { evicting = now.evicting; few = now.few }

abbrev pub from : (s : State) → Walk (Less s.is_evicting (length s.chunks))
from s = walk s.is_evicting (length s.chunks)

pub no_more_are_used : NoMoreAreUsed
no_more_are_used = record {
  taken = λ k e head rule s. no_more s _ (by_aim-keeps (from s) e head rule _ (set_less s.is_evicting (length s.chunks) k.number (answered_by (answer_with e head rule)) _ (bring_row-keeps (from s) e head s (first s))));
  refused = λ k e head s. no_more s _ (bad_head-keeps (from s) k _ (bring_row-keeps (from s) e head s (first s)));
  wholes = λ k e a s. no_more s _ (finish-keeps (from s) k e a s (first s));
  bodies = λ k s. no_more s _ (bad_response-keeps (from s) k s (first s));
  heads = λ k s. no_more s _ (bad_head-keeps (from s) k s (first s));
}
