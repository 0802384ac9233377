use Rattle.std.proofs.Common.{◌≡◌, ◌∙◌, Some, ap, sym}
use Rattle.store.specs.Journals.{device_in}
use Rattle.store.proofs.Closing.{all_rest}
use Rattle.store.proofs.Written.{ok_then}
use Rattle.store.proofs.store.Store.close.Goals as goal
use Rattle.store.proofs.store.Store.close.Goals.{in-Some, in-None}

pub returns-clause-closed : goal.returns-clause-closed
returns-clause-closed g c =
    all_rest g.K.LogReader.may_hold g.K.Keeper.holds c.args.self.seats.items c.stop_all-stopped.new.self.seats.items _ c.stop_all-stopped.ensures.rests c.of.ensures

pub returns-clause-all : goal.returns-clause-all
returns-clause-all g c =
    let is : c.match-scribe.device ≡ device_in c.stop_all-stopped.new.self.scribe = elim c.match-scribe.branch [
      | in-Some w ↦ w.device-is ∙ ap Some w.into_device.ensures ∙ sym (ap device_in w.in-Some.is)
      | in-None w ↦ w.device-is ∙ sym (ap device_in w.in-None.is)
    ] in
    rw is c.stop_all-stopped.ensures.all

pub returns-clause-part : goal.returns-clause-part
returns-clause-part g c =
    let is : c.match-scribe.device ≡ device_in c.stop_all-stopped.new.self.scribe = elim c.match-scribe.branch [
      | in-Some w ↦ w.device-is ∙ ap Some w.into_device.ensures ∙ sym (ap device_in w.in-Some.is)
      | in-None w ↦ w.device-is ∙ sym (ap device_in w.in-None.is)
    ] in
    rw is c.stop_all-stopped.ensures.part

pub returns-clause-ends : goal.returns-clause-ends
returns-clause-ends g c =
    let is : c.match-scribe.device ≡ device_in c.stop_all-stopped.new.self.scribe = elim c.match-scribe.branch [
      | in-Some w ↦ w.device-is ∙ ap Some w.into_device.ensures ∙ sym (ap device_in w.in-Some.is)
      | in-None w ↦ w.device-is ∙ sym (ap device_in w.in-None.is)
    ] in
    (c.stop_all-stopped.new.self, c.stop_all-stopped.ensures.goes, c.of.ensures, is, λ whole. ok_then c.stop_all-stopped.result whole c.stop_all-stopped.ensures.down)
