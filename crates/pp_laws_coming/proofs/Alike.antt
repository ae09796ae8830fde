-- Decisions that stand for each other.
use Rattle.std.proofs.Common.{◌≡◌, refl, Bool, true, false, ◌&&◌, ◌||◌}
use Rattle.pp_world.specs.declared.note.Decision.{Decision}
use Rattle.pp_world.specs.declared.note.Decision.TheVariants.{Refuse, Hit, Part, Head, NotModified, Unsatisfiable, Relay, Validate, Fetch, Pass}
use Rattle.pp_law.specs.Permits.{is_same_decision}
use Rattle.pp_law.specs.Stages.{is_page}
use Rattle.pp_laws_coming.proofs.Plans.{is_by_row, is_relay}

-- ---- by what was brought

pub same_relay : (x : Decision) → (is_same_decision x Relay || false) ≡ true → is_relay x ≡ true
same_relay (Refuse status) is = absurd (cc is)
same_relay (Hit from to) is = absurd (cc is)
same_relay (Part from to) is = absurd (cc is)
same_relay Head is = absurd (cc is)
same_relay NotModified is = absurd (cc is)
same_relay Unsatisfiable is = absurd (cc is)
same_relay Relay is = refl
same_relay Validate is = absurd (cc is)
same_relay Fetch is = absurd (cc is)
same_relay Pass is = absurd (cc is)

pub relay_unpaged : (x : Decision) → is_relay x ≡ true → is_page x ≡ false
relay_unpaged (Refuse status) is = absurd (cc is)
relay_unpaged (Hit from to) is = refl
relay_unpaged (Part from to) is = refl
relay_unpaged Head is = refl
relay_unpaged NotModified is = refl
relay_unpaged Unsatisfiable is = refl
relay_unpaged Relay is = refl
relay_unpaged Validate is = refl
relay_unpaged Fetch is = refl
relay_unpaged Pass is = refl

pub row_unpaged : (x : Decision) → is_by_row x ≡ true → is_page x ≡ false
row_unpaged (Refuse status) is = absurd (cc is)
row_unpaged (Hit from to) is = refl
row_unpaged (Part from to) is = refl
row_unpaged Head is = refl
row_unpaged NotModified is = refl
row_unpaged Unsatisfiable is = refl
row_unpaged Relay is = refl
row_unpaged Validate is = refl
row_unpaged Fetch is = refl
row_unpaged Pass is = refl

-- a reply by the row stands for no other decision
pub same_row : (more : Bool) (d x : Decision) → (is_same_decision x d || (is_same_decision d (Refuse 500) && more)) ≡ true → is_by_row d ≡ true → is_by_row x ≡ true
same_row more (Refuse status) x is by = absurd (cc by)
same_row more (Hit first behind) (Refuse status) is by = absurd (cc is)
same_row more (Hit first behind) (Hit from to) is by = refl
same_row more (Hit first behind) (Part from to) is by = refl
same_row more (Hit first behind) Head is by = refl
same_row more (Hit first behind) NotModified is by = refl
same_row more (Hit first behind) Unsatisfiable is by = refl
same_row more (Hit first behind) Relay is by = absurd (cc is)
same_row more (Hit first behind) Validate is by = absurd (cc is)
same_row more (Hit first behind) Fetch is by = absurd (cc is)
same_row more (Hit first behind) Pass is by = absurd (cc is)
same_row more (Part first behind) (Refuse status) is by = absurd (cc is)
same_row more (Part first behind) (Hit from to) is by = refl
same_row more (Part first behind) (Part from to) is by = refl
same_row more (Part first behind) Head is by = refl
same_row more (Part first behind) NotModified is by = refl
same_row more (Part first behind) Unsatisfiable is by = refl
same_row more (Part first behind) Relay is by = absurd (cc is)
same_row more (Part first behind) Validate is by = absurd (cc is)
same_row more (Part first behind) Fetch is by = absurd (cc is)
same_row more (Part first behind) Pass is by = absurd (cc is)
same_row more Head (Refuse status) is by = absurd (cc is)
same_row more Head (Hit from to) is by = refl
same_row more Head (Part from to) is by = refl
same_row more Head Head is by = refl
same_row more Head NotModified is by = refl
same_row more Head Unsatisfiable is by = refl
same_row more Head Relay is by = absurd (cc is)
same_row more Head Validate is by = absurd (cc is)
same_row more Head Fetch is by = absurd (cc is)
same_row more Head Pass is by = absurd (cc is)
same_row more NotModified (Refuse status) is by = absurd (cc is)
same_row more NotModified (Hit from to) is by = refl
same_row more NotModified (Part from to) is by = refl
same_row more NotModified Head is by = refl
same_row more NotModified NotModified is by = refl
same_row more NotModified Unsatisfiable is by = refl
same_row more NotModified Relay is by = absurd (cc is)
same_row more NotModified Validate is by = absurd (cc is)
same_row more NotModified Fetch is by = absurd (cc is)
same_row more NotModified Pass is by = absurd (cc is)
same_row more Unsatisfiable (Refuse status) is by = absurd (cc is)
same_row more Unsatisfiable (Hit from to) is by = refl
same_row more Unsatisfiable (Part from to) is by = refl
same_row more Unsatisfiable Head is by = refl
same_row more Unsatisfiable NotModified is by = refl
same_row more Unsatisfiable Unsatisfiable is by = refl
same_row more Unsatisfiable Relay is by = absurd (cc is)
same_row more Unsatisfiable Validate is by = absurd (cc is)
same_row more Unsatisfiable Fetch is by = absurd (cc is)
same_row more Unsatisfiable Pass is by = absurd (cc is)
same_row more Relay x is by = absurd (cc by)
same_row more Validate x is by = absurd (cc by)
same_row more Fetch x is by = absurd (cc by)
same_row more Pass x is by = absurd (cc by)
