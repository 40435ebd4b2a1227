-- A made case: its setup and its log, as bytes, from a number.
use Rattle.std.specs.Prelude.{ℕ, ◌-◌, List, codes}
use Rattle.std.specs.List.{flat_map, range_with_len}
use Rattle.case_maker.specs.Cluster.{state_after, line_at}

-- the setup of each case: all is recorded at level RequestResponse, and configmaps alone are tracked
abbrev pub setup_text : List ℕ
setup_text = codes "{\"kind\":\"PastSetup\",\"version\":1,\"start\":{\"revision\":\"10\",\"time\":\"2024-05-01T10:00:00.000000Z\"},\"until\":\"2024-05-01T11:00:00.000000Z\",\"policy\":{\"apiVersion\":\"audit.k8s.io/v1\",\"kind\":\"Policy\",\"rules\":[{\"level\":\"RequestResponse\"}]},\"resources\":[{\"group\":\"\",\"version\":\"v1\",\"resource\":\"configmaps\",\"kind\":\"ConfigMap\",\"listKind\":\"ConfigMapList\",\"namespaced\":true}],\"snapshot\":[]}"

-- the lines of the events 1 to `events`
abbrev pub log_text : ℕ → ℕ → List ℕ
log_text seed events = flat_map (λ number. line_at (state_after seed (number - 1)) number) (range_with_len 1 events)
