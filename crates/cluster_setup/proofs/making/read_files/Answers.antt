use Rattle.cluster_setup.proofs.making.read_files.Goals as goal

pub loop-number-preserved : goal.loop-number-preserved
loop-number-preserved c = record { read = c.in_ok-add_file.ensures.read; range = c.in_ok-add_file.ensures.range }
