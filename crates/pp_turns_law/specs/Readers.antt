-- Whether what comes of an exchange is far ahead of all its readers is what the law says (ours).
use Rattle.std.specs.Prelude.{◌≡◌, ℕ, Some}
use Rattle.pp_flow.specs.Changes.{entry_of}
use Rattle.pp_flow.specs.declared.entry.Entry.{Entry}
use Rattle.pp_law.specs.Connections.{exchange}
use Rattle.pp_law.specs.Served.{is_far_ahead as is_far_by_law}
use Rattle.pp_law.specs.State.{Exchange}
use Rattle.pp_state.specs.Readers.{is_far_ahead}
use Rattle.pp_turns_law.specs.Firsts.{AreAwake}
use Rattle.pp_turns_law.specs.Wants.{OfEnds}

-- those that are asleep follow nothing
abbrev pub FarAheadIsTheLaws : Type 0
FarAheadIsTheLaws = OfEnds (λ number p s. (n : ℕ) (x : Entry) (e : Exchange) → AreAwake p → entry_of n p.flow ≡ Some x → exchange s n ≡ Some e → is_far_ahead x.exchange.bound p.cache p.awake.items p.seats.items ≡ is_far_by_law s e)
