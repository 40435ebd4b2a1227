use Rattle.std.proofs.Common.{◌∷◌, Err, map, string_bytes, Global, ap}
use Rattle.edge_io.specs.declared.whole.WholeStop.{WholeStop}
use Rattle.edge_io.specs.declared.whole.WholeStop.TheVariants.{ReadFault}
use Rattle.cluster_setup.proofs.AnsweringFacts.{made_of_told, stopped_made}
use Rattle.cluster_setup.proofs.GatheringFacts.{as_stop, memory_apart, no_fault, no_stop, taken_in_vain, taken_to_tell, taken_up_to}
use Rattle.cluster_setup.proofs.answering.make_named.Goals as goal

pub returns-in-Ok-made_text : goal.returns-in-Ok-made_text
returns-in-Ok-made_text g c =
    let names = map (string_bytes {Z = Global}) c.args.files.now in
    record {
      answered = λ told tells.
          (let read = c.in-Ok.ensures.read told tells in
          made_of_told c.args.authorize c.args.time.now c.in-Ok.given.policy names c.in-Ok.given.files.items c.in-Ok-made_text.made (told c.args.policy.now) (map told names)
          read.0 read.1 read.2 c.in-Ok-made_text.ensures);
      whole = c.in-Ok.ensures.whole;
      fault = λ is. absurd (no_stop c.in-Ok-made_text.made ReadFault is);
      counted = c.in-Ok.ensures.counted;
      taken = taken_to_tell (c.args.policy.now ∷ names) (g.D.Desk.left c.args.desk.now) (g.D.Desk.left c.read_given.new.desk) _ c.in-Ok-made_text.made c.in-Ok.ensures.taken;
      others = c.in-Ok.ensures.others;
    }

pub returns-in-Ok : goal.returns-in-Ok
returns-in-Ok g c = record {
  answered = λ told tells. tt;
  whole = tt;
  fault = λ is. absurd (memory_apart ReadFault no_fault is);
  counted = c.in-Ok.ensures.counted;
  taken = taken_in_vain (c.args.policy.now ∷ map (string_bytes {Z = Global}) c.args.files.now) (g.D.Desk.left c.args.desk.now) (g.D.Desk.left c.read_given.new.desk) _ c.in-Ok.ensures.taken;
  others = c.in-Ok.ensures.others;
}

pub returns : goal.returns
returns g c =
    let names = map (string_bytes {Z = Global}) c.args.files.now in
    record {
      answered = λ told tells. stopped_made c.args.authorize c.args.time.now (told c.args.policy.now) names (map told names) c.in-Err.stop
          (λ is. c.in-Err.ensures.long (ap (λ (s : WholeStop). Err s) is) told tells);
      whole = tt;
      fault = λ is. c.in-Err.ensures.fault (as_stop c.in-Err.stop ReadFault is);
      counted = c.in-Err.ensures.counted;
      taken = taken_up_to (c.args.policy.now ∷ names) (g.D.Desk.left c.args.desk.now) (g.D.Desk.left c.read_given.new.desk) c.in-Err.stop c.in-Err.ensures.taken;
      others = c.in-Err.ensures.others;
    }
