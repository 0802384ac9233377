-- What a world shows of its members.
use Rattle.std.proofs.Common.{◌≡◌, ◌∙◌, zero, suc, List, refl, sym, ap, false}
use Rattle.std.specs.Prelude.{Option, Some, None, slice_get, option_map}
use Rattle.std.proofs.lemmas.Option.{slice_get-map}
use Rattle.model.specs.Lists.{nth}
use Rattle.model.specs.Members.{Node}
use Rattle.world.specs.declared.history.World.{World}
use Rattle.world.specs.declared.seat.Seat.{Seat}
use Rattle.world.specs.declared.seat.Seat.TheVariants.{Up, Down}
use Rattle.world.specs.Run.{now_of}
use Rattle.world.specs.View.{node_in, nodes_of, IsRun}
use Rattle.report.specs.Deciding.{AreBlankDown}

blank_seat : (s : Seat) → (node_in s).up ≡ false → (node_in s).commit ≡ 0
blank_seat (Up x) up = absurd (cc up)
blank_seat (Down image recall) up = refl

blank_in : (o : Option Seat) (x : Node) → option_map node_in o ≡ Some x → x.up ≡ false → x.commit ≡ 0
blank_in None x is up = absurd (cc is)
blank_in (Some s) x is up =
    let same : node_in s ≡ x = (cc is) in
    sym (ap (λ y. y.commit) same) ∙ blank_seat s (ap (λ y. y.up) same ∙ up)

blank_at : (seats : List Seat) → AreBlankDown (nodes_of seats)
blank_at seats zero x is up = absurd (cc is)
blank_at seats (suc k) x is up = blank_in (slice_get seats k) x (sym (slice_get-map node_in seats k) ∙ is) up

-- members that are down have applied nothing
pub blank_down : (w : World) → IsRun w.group w.kept.items → AreBlankDown (now_of w).nodes
blank_down w is m x at up = blank_at w.group.seats.items m x (ap (λ v. nth v.nodes m) is.world ∙ at) up
