use Rattle.std.proofs.Common.{rules, ℕ, ℤ}
use Rattle.std.specs.Prelude.{codes}
use Rattle.model.specs.declared.message.Message.{Message}
use Rattle.flight.specs.declared.life.Packet.{Packet}
use Rattle.flight.specs.declared.life.Packet.TheVariants.{Delivered}
use Rattle.flight.specs.Spelling.{packet_text}
use Rattle.flight.specs.Ranges.{IsPacket}
use Rattle.flight.specs.Packets.{delivery_text, IsDelivery}
use Rattle.flight.proofs.Choices.{case_only, case_unread}
use Rattle.flight.proofs.Messages.{delivery_of}
use Rattle.flight.proofs.packets.read_packet.Goals as goal

abbrev from_delivery : ℤ → ℕ × Message → Packet
from_delivery reading v = Delivered v.0 reading v.1

pub returns-in_err-mark-clause-err : goal.returns-in_err-mark-clause-err
returns-in_err-mark-clause-err c =
    let unread = case_unread (codes "from ") (from_delivery c.args.reading) (IsDelivery c.args.version c.args.node) (delivery_text c.args.version) (IsPacket c.args.version c.args.node c.args.reading) (packet_text c.args.version) (delivery_of c.args.version c.args.node c.args.reading)
    c.args.text.now c.in_ok-rest.rest.now c.in_ok-rest.ensures.ok.0 c.in_err-mark.field-0.0 c.in_err-mark.ensures.err in
    search (rules, unread)

pub returns-clause-only : goal.returns-clause-only
returns-clause-only c =
    let only = case_only (codes "from ") (from_delivery c.args.reading) (IsDelivery c.args.version c.args.node) (delivery_text c.args.version) (IsPacket c.args.version c.args.node c.args.reading) (packet_text c.args.version) (delivery_of c.args.version c.args.node c.args.reading)
    c.args.text.now c.in_ok-rest.rest.now c.in_ok-rest.ensures.ok.0 (c.in_ok-mark.mark, c.in_ok-mark.message) c.in_ok-mark.rest.now c.in_ok-mark.ensures.only in
    search (rules, only)
