use Rattle.std.proofs.Common.{◌≡◌, ◌∙◌, List, ℕ, ap, subst, take}
use Rattle.std.proofs.lemmas.List.{take_min}
use Rattle.std.specs.Prelude.{codes}
use Rattle.pp_cache.specs.Memory.{Memory, retired_at}
use Rattle.pp_seats.specs.declared.seat.Seat.{Seat}
use Rattle.pp_text.specs.Fields.{values_of}
use Rattle.pp_state.specs.Ends.{Parts, all_decided_anew, cleared_key}
use Rattle.pp_answers.specs.ThroughHeads.{ClearsEach}
use Rattle.pp_answers.proofs.OutdatedLemmas.{each_behind}
use Rattle.pp_answers.proofs.outdated.clear_all.Goals as goal

pub returns-clause-is : goal.returns-clause-is
returns-clause-is c = λ flow.
    let key = c.args.key.now in
    let fields = c.args.head.now.fields in
    let site = take c.args.path key in
    let short : take c.min.result key ≡ site = ap (λ n. take n key) c.min.ensures ∙ take_min c.args.path key in
    let old : Parts = record { seats = c.args.seats.now; flow = flow; cache = c.args.cache.now; refused = c.args.refused.now; is_astray = c.args.is_astray.now } in
    let first : Parts = record { seats = c.clear_key.new.seats; flow = flow; cache = c.clear_key.new.cache; refused = c.clear_key.new.refused; is_astray = c.args.is_astray.now } in
    let second : Parts = record { seats = c.clear_places.new.seats; flow = flow; cache = c.clear_places.new.cache; refused = c.clear_places.new.refused; is_astray = c.clear_places.new.is_astray } in
    let third : Parts = record { seats = c.clear_places-2.new.seats; flow = flow; cache = c.clear_places-2.new.cache; refused = c.clear_places-2.new.refused; is_astray = c.clear_places-2.new.is_astray } in
    let cleared : first ≡ cleared_key key old =
    ap (λ (x : List Seat). let p : Parts = record { seats = x; flow = flow; cache = c.clear_key.new.cache; refused = c.clear_key.new.refused; is_astray = c.args.is_astray.now } in p) c.clear_key.ensures.seats
    ∙ ap (λ (x : Memory). let p : Parts = record { seats = all_decided_anew key old.refused old.seats; flow = flow; cache = x; refused = c.clear_key.new.refused; is_astray = c.args.is_astray.now } in p) c.clear_key.ensures.cache
    ∙ ap (λ (x : List (List ℕ)). let p : Parts = record { seats = all_decided_anew key old.refused old.seats; flow = flow; cache = retired_at key old.cache; refused = x; is_astray = c.args.is_astray.now } in p) c.clear_key.ensures.refused in
    let A : List (List ℕ) → Type 0 = λ texts. ClearsEach (take c.min.result key) texts first second in
    let B : List (List ℕ) → Type 0 = λ texts. ClearsEach (take c.min.result key) texts second third in
    let C : List ℕ → Type 0 = λ at. ClearsEach at (values_of (codes "location") fields) first second in
    let D : List ℕ → Type 0 = λ at. ClearsEach at (values_of (codes "content-location") fields) second third in
    let E : Parts → Type 0 = λ p. ClearsEach site (values_of (codes "location") fields) p second in
    each_behind site (values_of (codes "location") fields) (values_of (codes "content-location") fields) (cleared_key key old) second third
    (subst E cleared (subst C short (subst A c.values-location.ensures (c.clear_places.ensures.is flow))))
    (subst D short (subst B c.values-content.ensures (c.clear_places-2.ensures.is flow)))
