-- What a page says that is the same on each: heads, sentences and columns.
use Rattle.std.specs.Prelude.{ℕ, List, codes}

-- the verdict
unfoldable pub overview_head : List ℕ
overview_head = codes "<h1>Explained</h1>\n<p>There is an order of all events in which each answer is right. This page shows the log as a whole.</p>\n<dl>\n"

-- how the events were judged, with the columns of the table
unfoldable pub counts_head : List ℕ
counts_head = codes "<h2>How the events were judged</h2>\n<table>\n<thead><tr><th scope=\"col\">What the answer says</th><th scope=\"col\">Events and checkpoints</th></tr></thead>\n<tbody>\n"

-- the log over time, with the lanes from above
unfoldable pub time_head : List ℕ
time_head = codes "<h2>The log over time</h2>\n<figure>\n<svg viewBox=\"0 0 960 225\" role=\"img\" aria-labelledby=\"time-title time-desc\">\n<title id=\"time-title\">The log over time</title>\n<desc id=\"time-desc\">Each event stands at the receipt of its request: writes as ticks, removals as diamonds, reads as\ncircles, lists as squares, allowed requests as crosses that stand, forbidden ones as crosses that lie, unrecorded writes as\nbroken ticks. The table below says the same.</desc>\n<text x=\"4\" y=\"28\">Writes</text>\n<text x=\"4\" y=\"58\">Removals</text>\n<text x=\"4\" y=\"88\">Reads</text>\n<text x=\"4\" y=\"118\">Lists</text>\n<text x=\"4\" y=\"148\">Decisions</text>\n<text x=\"4\" y=\"178\">Unrecorded writes</text>\n"

-- the same of a log without an event that has a mark
unfoldable pub no_events : List ℕ
no_events = codes "<h2>The log over time</h2>\n<p>No event is drawn.</p>\n"

-- the drawn events
unfoldable pub events_head : List ℕ
events_head = codes "<details>\n<summary>The drawn events as a table</summary>\n<table>\n<thead><tr><th scope=\"col\">Line</th><th scope=\"col\">Receipt</th><th scope=\"col\">Request</th>\n<th scope=\"col\">What the answer says</th><th scope=\"col\">Decision</th></tr></thead>\n<tbody>\n"

-- the objects that changed
unfoldable pub changes_head : List ℕ
changes_head = codes "<h2>The objects that changed most</h2>\n<p>How many versions an object got by writes that the log records, creates among them.</p>\n<table>\n<thead><tr><th scope=\"col\">Object</th><th scope=\"col\">Versions</th><th scope=\"col\">First revision</th>\n<th scope=\"col\">Last revision</th></tr></thead>\n<tbody>\n"

-- the history by revision, with what is drawn where
unfoldable pub history_head : List ℕ
history_head = codes "<h2>The history by revision</h2>\n<figure>\n<svg viewBox=\"0 0 960 205\" role=\"img\" aria-labelledby=\"history-title history-desc\">\n<title id=\"history-title\">The history by revision</title>\n<desc id=\"history-desc\">Each version behind the start is a tick at its revision, each removal a bar over the range of\nits places, each unrecorded write a broken tick at the lowest place of its window. The tables below say the same.</desc>\n<text x=\"4\" y=\"36\">Versions</text>\n<text x=\"4\" y=\"98\">Removals</text>\n<text x=\"4\" y=\"158\">Unrecorded writes</text>\n"

-- the versions behind the start
unfoldable pub versions_head : List ℕ
versions_head = codes "<h3>Versions behind the start</h3>\n<table>\n<thead><tr><th scope=\"col\">Revision</th><th scope=\"col\">Object</th><th scope=\"col\">Written by</th></tr></thead>\n<tbody>\n"

-- the unrecorded writes
unfoldable pub unrecorded_head : List ℕ
unrecorded_head = codes "<h3>Unrecorded writes</h3>\n<p>From the lowest place of its window on, nothing is known of the objects that such a write may have changed.</p>\n<table>\n<thead><tr><th scope=\"col\">Line</th><th scope=\"col\">Lowest place</th></tr></thead>\n<tbody>\n"

-- the removals
unfoldable pub removals_head : List ℕ
removals_head = codes "<h2>Removals</h2>\n<p>A delete shows no revision, so a removal took place at one of a range of places. Place 18446744073709551615 stands\nbehind all revisions.</p>\n<table>\n<thead><tr><th scope=\"col\">Line</th><th scope=\"col\">Object</th><th scope=\"col\">Uid</th>\n<th scope=\"col\">Last revision</th><th scope=\"col\">Range of places</th><th scope=\"col\">Placed at</th></tr></thead>\n<tbody>\n"
