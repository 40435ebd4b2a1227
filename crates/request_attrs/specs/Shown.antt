-- What the borrowed parts of a request show.
use Rattle.request_attrs.specs.declared.request.ApiPath as borrowed_path
use Rattle.request_attrs.specs.declared.request.ResourceRequest as borrowed_request
use Rattle.request_attrs.specs.declared.attributes.ResourceTexts.{ResourceTexts}
use Rattle.request_attrs.specs.Paths.{texts_of}
use Rattle.request_attrs.specs.Requests.{ApiPath, ResourceRequest}

abbrev pub shown_path : borrowed_path.ApiPath → ApiPath
shown_path path = record { group = path.group.now; version = path.version.now; rest = texts_of path.rest.now }

abbrev pub shown_request : borrowed_request.ResourceRequest → ResourceRequest
shown_request request = record {
  group = request.group.now;
  version = request.version.now;
  namespace = request.namespace.now;
  resource = request.resource.now;
  name = request.name.now;
  subresource = request.subresource.now;
}

abbrev pub shown_texts : ResourceTexts → ResourceRequest
shown_texts texts = record {
  group = texts.group;
  version = texts.version;
  namespace = texts.namespace;
  resource = texts.resource;
  name = texts.name;
  subresource = texts.subresource;
}
